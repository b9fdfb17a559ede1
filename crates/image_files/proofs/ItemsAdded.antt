-- Items that are added one after the other.
use Rattle.std.proofs.Common.{◌≡◌, ℕ, suc, ◌+◌, ◌≤◌, ◌<◌, List, [], ◌∷◌, ◌++◌, length, false, refl, ap, ap₂, sym, subst, ◌∙◌, arith}
use Rattle.std.proofs.Common.{length-append}
use Rattle.std.specs.Str.{bytes_eq}
use Rattle.std.proofs.lemmas.List.Sums.{sum_by-cons, sum_by-append}
use Rattle.vt_outside.proofs.Texts.{other_turned}
use Rattle.vt_bytes.proofs.Each.{each_midst}
use Rattle.cfg_directory.specs.declared.item.Item.{Item}
use Rattle.cfg_directory.specs.Items as items
use Rattle.loader_script.specs.declared.entry.Entry.{Entry}
use Rattle.image_files.specs.Files.{ImageFile, among, by_name}
use Rattle.image_files.specs.Script.{script_of}
use Rattle.loader_script.specs.LoaderName.{loader_name}
use Rattle.image_files.specs.Items.{AreSorted, items_from, items_of, total_bytes, image_limit, loader_file}
use Rattle.image_files.specs.Linkable.{HasNoName, AreDistinct}
use Rattle.image_files.proofs.ByName.{AreDistinct-by_name, length-by_name}

-- the item of a file
abbrev item_of : ℕ → ImageFile → Item
item_of select file = record { name = file.name; select = select; writable = file.writable; bytes = file.blob.bytes }

-- the items of more files
pub items_from-append : (select : ℕ) (files more : List ImageFile) → items_from select (files ++ more)
    ≡ items_from select files ++ items_from (select + length files) more
items_from-append select [] more = let same : select ≡ select + 0 = omega arith in ap (λ (s : ℕ). items_from s more) same
items_from-append select (file ∷ files) more =
    let next : select + 1 + length files ≡ select + suc (length files) = omega arith in
    ap (λ (others : List Item). item_of select file ∷ others)
    (items_from-append (select + 1) files more ∙ ap (λ (s : ℕ). items_from (select + 1) files ++ items_from s more) next)

-- they are as many, and as long
pub length-items_from : (select : ℕ) (files : List ImageFile) → length (items_from select files) ≡ length files
length-items_from select [] = refl
length-items_from select (file ∷ files) = ap suc (length-items_from (select + 1) files)

pub total-items_from : (select : ℕ) (files : List ImageFile) → items.total_size (items_from select files) ≡ total_bytes files
total-items_from select [] = refl
total-items_from select (file ∷ files) =
    sum_by-cons (λ (item : Item). length item.bytes) (item_of select file) (items_from (select + 1) files)
    ∙ ap (λ (n : ℕ). length file.blob.bytes + n) (total-items_from (select + 1) files)
    ∙ sym (sum_by-cons (λ (other : ImageFile). length other.blob.bytes) file files)

-- their selectors count up
pub numbered-items_from : (select : ℕ) (files : List ImageFile) → items.AreNumberedFrom select (items_from select files)
numbered-items_from select [] = tt
numbered-items_from select (file ∷ files) = (refl, numbered-items_from (select + 1) files)

-- a name that none of the files has, none of their items has
no_name : (select : ℕ) (files : List ImageFile) (name : List ℕ) → HasNoName files name → items.HasNoName (items_from select files) name
no_name select [] name none = tt
no_name select (file ∷ files) name none = (none.0, no_name (select + 1) files name none.1)

-- none of the files before a file has its name
before_named : (files : List ImageFile) (file : ImageFile) (more : List ImageFile) → AreDistinct (files ++ file ∷ more)
    → HasNoName files file.name
before_named [] file more distinct = tt
before_named (first ∷ files) file more distinct = (
  other_turned file.name first.name (each_midst (λ (other : ImageFile). bytes_eq other.name first.name ≡ false) files file more distinct.0),
  before_named files file more distinct.1,
)

-- The items of the first files were added: the next one can be.
pub record CanBeAdded (added : List Item) (file : ImageFile) : Type 0 where
  pub named : items.HasNoName added file.name
  pub numbered : items.AreNumberedFrom 0x20 added
  pub few : length added < 1024
  pub small : items.total_size added + length file.blob.bytes ≤ image_limit

pub can_be_added : (files first more : List ImageFile) (file : ImageFile) (added : List Item) → first ++ file ∷ more ≡ files
    → added ≡ items_from 0x20 first → AreDistinct files → length files ≤ 1024 → total_bytes files ≤ image_limit → CanBeAdded added file
can_be_added files first more file added split are distinct few small =
    let many : length first + suc (length more) ≡ length files = sym (length-append first (file ∷ more)) ∙ ap length split in
    let size : ImageFile → ℕ = λ (one : ImageFile). length one.blob.bytes in
    let bytes : total_bytes first + (length file.blob.bytes + total_bytes more) ≡ total_bytes files =
    ap (λ (n : ℕ). total_bytes first + n) (sym (sum_by-cons size file more)) ∙ sym (sum_by-append size first (file ∷ more)) ∙ ap total_bytes split in
    let these : CanBeAdded (items_from 0x20 first) file = record {
      named = no_name 0x20 first file.name (before_named first file more (subst AreDistinct (sym split) distinct));
      numbered = numbered-items_from 0x20 first;
      few = omega (arith, length-items_from 0x20 first, many);
      small = omega (arith, total-items_from 0x20 first, bytes);
    } in
    subst (λ (those : List Item). CanBeAdded those file) (sym are) these

-- and then they are those of one more
pub one_more_added : (first : List ImageFile) (file : ImageFile) (added new : List Item) → added ≡ items_from 0x20 first
    → new ≡ added ++ items_from (0x20 + length added) (file ∷ []) → new ≡ items_from 0x20 (first ++ file ∷ [])
one_more_added first file added new are more =
    let count : 0x20 + length added ≡ 0x20 + length first = ap (λ (those : List Item). 0x20 + length those) are
    ∙ ap (λ (n : ℕ). 0x20 + n) (length-items_from 0x20 first) in
    more ∙ ap₂ (λ (those : List Item) (select : ℕ). those ++ items_from select (file ∷ [])) are count ∙ sym (items_from-append 0x20 first (file ∷ []))

-- a list of no elements is empty
pub nothing_left : {X : Type 0} (xs : List X) → length xs ≡ 0 → xs ≡ []
nothing_left [] none = refl
nothing_left (x ∷ xs) none = absurd (omega (arith, none))

-- the bytes of sorted files are those of the image's items
pub total_is : (files : List ImageFile) (later : List Entry) (sorted : List ImageFile) → AreSorted files later sorted
    → total_bytes sorted ≡ items.total_size (items_of files later)
total_is files later sorted are =
    ap total_bytes are ∙ sym (total-items_from 0x20 (by_name (loader_file (script_of files later) ∷ files)))

-- the names of sorted files differ
pub sorted_distinct : (files : List ImageFile) (later : List Entry) (sorted : List ImageFile) → AreSorted files later sorted
    → AreDistinct files → HasNoName files loader_name → AreDistinct sorted
sorted_distinct files later sorted are distinct others =
    subst AreDistinct (sym are) (AreDistinct-by_name (loader_file (script_of files later) ∷ files) (others, distinct))

-- the file of the script is one more
pub sorted_few : (files : List ImageFile) (later : List Entry) (sorted : List ImageFile) → AreSorted files later sorted
    → length sorted ≡ suc (length files)
sorted_few files later sorted are = ap length are ∙ length-by_name (loader_file (script_of files later) ∷ files)

-- files are sorted once the file of the script is put among the others
pub sorted_with : (files : List ImageFile) (later script : List Entry) (loader : ImageFile) (before sorted : List ImageFile)
    → script ≡ script_of files later → loader ≡ loader_file script → before ≡ by_name files → sorted ≡ among loader before
    → AreSorted files later sorted
sorted_with files later script loader before sorted script_is loader_is before_is sorted_is =
    sorted_is ∙ ap₂ among (loader_is ∙ ap loader_file script_is) before_is
