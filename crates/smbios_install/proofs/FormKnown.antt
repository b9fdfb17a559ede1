-- What is known of the bytes of an anchor of a form.
use Rattle.std.proofs.Common.{◌≡◌, ℕ, Bool, true, false, cond, ◌&&◌, List, length, take, codes, slice_index, Some, None}
use Rattle.std.proofs.Common.{refl, eqb-true}
use Rattle.std.specs.Bool.{◌==◌}
use Rattle.std.specs.Str.{bytes_eq}
use Rattle.std.proofs.lemmas.Bool.{and_parts}
use Rattle.std.proofs.lemmas.Option.{none-some}
use Rattle.vt_outside.proofs.Texts.{same_text}
use Rattle.vt_bytes.specs.Parts.{part}
use Rattle.smbios_model.specs.declared.anchor.AnchorForm.{AnchorForm}
use Rattle.smbios_model.specs.declared.anchor.AnchorForm.TheVariants.{Smbios3, Smbios2}
use Rattle.smbios_model.specs.Anchor.{least_length}
use Rattle.smbios_install.specs.Forms.{is_smbios3, is_smbios2, form_of}

-- the marks and the length of a 64-bit entry point, and of an old anchor
pub record IsSmbios3 (bytes : List ℕ) : Type 0 where
  pub size : length bytes ≡ 0x18
  pub mark : take 5 bytes ≡ codes "_SM3_"
  pub told : slice_index bytes 6 ≡ 0x18

pub record IsSmbios2 (bytes : List ℕ) : Type 0 where
  pub size : length bytes ≡ 31
  pub mark : take 4 bytes ≡ codes "_SM_"
  pub told : slice_index bytes 5 ≡ 31
  pub second : part bytes 0x10 5 ≡ codes "_DMI_"

abbrev pub IsOf : AnchorForm → List ℕ → Type 0
IsOf Smbios3 bytes = IsSmbios3 bytes
IsOf Smbios2 bytes = IsSmbios2 bytes

smbios3_from : (bytes : List ℕ) → is_smbios3 bytes ≡ true → IsSmbios3 bytes
smbios3_from bytes is =
    let last = and_parts (length bytes == 0x18 && bytes_eq (take 5 bytes) (codes "_SM3_")) (slice_index bytes 6 == 0x18) is in
    let first = and_parts (length bytes == 0x18) (bytes_eq (take 5 bytes) (codes "_SM3_")) last.0 in
    record {
      size = eqb-true (length bytes) 0x18 first.0;
      mark = same_text (take 5 bytes) (codes "_SM3_") first.1;
      told = eqb-true (slice_index bytes 6) 0x18 last.1;
    }

smbios2_from : (bytes : List ℕ) → is_smbios2 bytes ≡ true → IsSmbios2 bytes
smbios2_from bytes is =
    let second = and_parts (length bytes == 31 && bytes_eq (take 4 bytes) (codes "_SM_") && slice_index bytes 5 == 31)
    (bytes_eq (part bytes 0x10 5) (codes "_DMI_")) is in
    let told = and_parts (length bytes == 31 && bytes_eq (take 4 bytes) (codes "_SM_")) (slice_index bytes 5 == 31) second.0 in
    let first = and_parts (length bytes == 31) (bytes_eq (take 4 bytes) (codes "_SM_")) told.0 in
    record {
      size = eqb-true (length bytes) 31 first.0;
      mark = same_text (take 4 bytes) (codes "_SM_") first.1;
      told = eqb-true (slice_index bytes 5) 31 told.1;
      second = same_text (part bytes 0x10 5) (codes "_DMI_") second.1;
    }

-- bytes of a form have its marks and its length
is_of : (bytes : List ℕ) (form : AnchorForm) (three two : Bool) → is_smbios3 bytes ≡ three → is_smbios2 bytes ≡ two
    → cond three (Some Smbios3) (cond two (Some Smbios2) None) ≡ Some form → IsOf form bytes
is_of bytes Smbios3 true two three_is two_is is = smbios3_from bytes three_is
is_of bytes Smbios2 true two three_is two_is is = absurd (cc)
is_of bytes Smbios3 false true three_is two_is is = absurd (cc)
is_of bytes Smbios2 false true three_is two_is is = smbios2_from bytes two_is
is_of bytes form false false three_is two_is is = absurd (none-some form is)

pub form_known : (bytes : List ℕ) (form : AnchorForm) → form_of bytes ≡ Some form → IsOf form bytes
form_known bytes form is = is_of bytes form (is_smbios3 bytes) (is_smbios2 bytes) refl refl is

pub size_known : (bytes : List ℕ) (form : AnchorForm) → form_of bytes ≡ Some form → length bytes ≡ least_length form
size_known bytes Smbios3 is = (form_known bytes Smbios3 is).size
size_known bytes Smbios2 is = (form_known bytes Smbios2 is).size
