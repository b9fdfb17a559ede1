-- The FADT of a machine: its numbers fit its rows, it leads to its FACS, and the machine's part is got back from it.
use Rattle.std.proofs.Common.{◌≡◌, ℕ, zero, suc, ◌+◌, ◌*◌, ◌%◌, ◌/◌, ◌<◌, ◌≤◌, ◌^◌, ◌==◌, Bool, true, false, List, cond, if◌then◌else◌}
use Rattle.std.proofs.Common.{Option, Some, None, IsSome, option_map, nat_lt, arith, rules, refl, ap, sym, ◌∙◌, subst}
use Rattle.std.proofs.lemmas.Bool.{lt-ltb}
use Rattle.std.proofs.lemmas.Bool.Decides.{nat_tests}
use Rattle.std.specs.List.{AllByRecursion}
use Rattle.vt_bytes.specs.View.{View}
use Rattle.vt_layout.specs.Rows.{IsRow}
use Rattle.machine_desc.specs.declared.machine.Acpi.{Acpi}
use Rattle.machine_desc.specs.declared.acpi_parts.Power.{Power}
use Rattle.machine_desc.specs.Fields.{IsFittingPower}
use Rattle.acpi_records.specs.declared.generic_address.GenericAddress.{GenericAddress}
use Rattle.acpi_records.specs.declared.fadt.Fadt.{Fadt}
use Rattle.acpi_model.specs.Kinds.{tables_name, rows_behind}
use Rattle.acpi_model.specs.FadtKind.{fadt_layout, linked_links}
use Rattle.acpi_records.specs.Facs.{IsFacs}
use Rattle.acpi_model.specs.declared.dsdt.Dsdt.{Dsdt}
use Rattle.acpi_model.specs.declared.link.FadtLinks.{FadtLinks}
use Rattle.acpi_model.specs.Links.{IsFound}
use Rattle.acpi_model.specs.Found.{IsKeptAt, facs_address, dsdt_address, LeadTo}
use Rattle.acpi_records.specs.Facs.{initial_facs}
use Rattle.acpi_model.specs.MachineFadt.{no_register, register_at, boot_arch, fadt_flags, fadt_of, fadt_links, power_in}

-- a port that isn't 0 has a register
at_port : (width access port : ℕ) → 0 < port
    → register_at width access port ≡ record { space = 1; width = width; offset = 0; access = access; address = port }
at_port width access port some =
    let test : (port == 0) ≡ false = grind (arith, nat_tests) in
    ap (λ is. cond is no_register (record { space = 1; width = width; offset = 0; access = access; address = port })) test

-- a register whose address has 64 bits, and whose other numbers have 8
pub record IsFittingRegister (register : GenericAddress) : Type 0 where
  pub space : register.space < 256 ^ 1
  pub width : register.width < 256 ^ 1
  pub offset : register.offset < 256 ^ 1
  pub access : register.access < 256 ^ 1
  pub address : register.address < 256 ^ 8

register_fits : (width access port : ℕ) → width < 2 ^ 8 → access < 2 ^ 8 → port < 2 ^ 16 → IsFittingRegister (register_at width access port)
register_fits width access zero wide accessed few =
    record { space = omega arith; width = omega arith; offset = omega arith; access = omega arith; address = omega arith }
register_fits width access (suc before) wide accessed few =
    subst IsFittingRegister (sym (at_port width access (suc before) (omega arith)))
    (record { space = omega arith; width = omega (arith, wide); offset = omega arith; access = omega (arith, accessed); address = omega (arith, few) })

flags_fit : (power : Power) → fadt_flags power < 256 ^ 4
flags_fit power = either (power.reset == 0)
  where
    either : (is : Bool) → (if is then 0x1A5 else 0x5A5) < 256 ^ 4
    either true = omega arith
    either false = omega arith

arch_fits : (power : Power) → boot_arch power < 256 ^ 2
arch_fits power = either power.keyboard
  where
    either : (is : Bool) → (if is then 3 else 0) < 256 ^ 2
    either true = omega arith
    either false = omega arith

pub fadt_rows_fit : (acpi : Acpi) (power : Power) → IsFittingPower power → power.gpe_len ≤ 30
    → AllByRecursion IsRow (rows_behind (fadt_layout (fadt_of acpi power) (fadt_links 0 64)))
fadt_rows_fit acpi power fit few =
    let reset = register_fits 8 1 power.reset (omega arith) (omega arith) fit.reset in
    let event = register_fits 32 2 power.event (omega arith) (omega arith) fit.event in
    let control = register_fits 16 2 power.control (omega arith) (omega arith) fit.control in
    let timer = register_fits 32 3 power.timer (omega arith) (omega arith) fit.timer in
    let gpe = register_fits (8 * power.gpe_len) 1 power.gpe (omega (arith, few)) (omega arith) fit.gpe in
    let event_fits : power.event < 256 ^ 4 = omega (arith, fit.event) in
    let control_fits : power.control < 256 ^ 4 = omega (arith, fit.control) in
    let timer_fits : power.timer < 256 ^ 4 = omega (arith, fit.timer) in
    let gpe_fits : power.gpe < 256 ^ 4 = omega (arith, fit.gpe) in
    search (
      rules,
      fit.profile,
      fit.sci,
      event_fits,
      control_fits,
      timer_fits,
      gpe_fits,
      fit.gpe_len,
      fit.century,
      arch_fits power,
      flags_fit power,
      fit.reset_value,
      reset.space,
      reset.width,
      reset.offset,
      reset.access,
      reset.address,
      event.space,
      event.width,
      event.offset,
      event.access,
      event.address,
      control.space,
      control.width,
      control.offset,
      control.access,
      control.address,
      timer.space,
      timer.width,
      timer.offset,
      timer.access,
      timer.address,
      gpe.space,
      gpe.width,
      gpe.offset,
      gpe.access,
      gpe.address,
    )

-- where the file of the tables isn't at 0, a 64-bit pointer to an offset of it leads there
wide_at : (offset place narrow : ℕ) → 0 < place → (if offset + place == 0 then narrow else offset + place) ≡ offset + place
wide_at offset place narrow some =
    let test : (offset + place == 0) ≡ false = grind (arith, nat_tests) in
    ap (λ is. cond is narrow (offset + place)) test

-- what an address leads to that isn't 0
found_there : {T : Type 0} (Stands : ℕ → T → Type 0) (what : T) (address offset place : ℕ) → address ≡ offset + place → 0 < place
    → Stands (place + offset) what → IsFound Stands address (Some what)
found_there Stands what address offset place is some stands =
    let turned : place + offset ≡ offset + place = omega arith in (
      λ nowhere. omega (arith, some, is, nowhere),
      subst (λ a. Stands a what) (turned ∙ sym is) stands,
    )

pub leads_to_targets : (view : View) (place_of : List ℕ → ℕ) (facs dsdt : ℕ) (its : Dsdt) (id : Option (List ℕ)) → 0 < place_of tables_name
    → (power : Option Power) → (IsSome power → IsFacs view (place_of tables_name + facs) initial_facs)
    → (IsSome power → IsKeptAt view (place_of tables_name + dsdt) its id) → (power ≡ None → id ≡ None)
    → LeadTo view (option_map (λ part. linked_links place_of (fadt_links facs dsdt)) power)
    (record { facs = option_map (λ part. initial_facs) power; dsdt = option_map (λ part. its) power; generation = id })
leads_to_targets view place_of facs dsdt its id placed None facs_stands dsdt_stands none = (refl, refl, none refl)
leads_to_targets view place_of facs dsdt its id placed (Some power) facs_stands dsdt_stands none =
    let links : FadtLinks = linked_links place_of (fadt_links facs dsdt) in
    let place : ℕ = place_of tables_name in (
      found_there (IsFacs view) initial_facs (facs_address links) facs place (wide_at facs place 0 placed) placed (facs_stands refl),
      found_there (λ address d. IsKeptAt view address d id) its (dsdt_address links) dsdt place (wide_at dsdt place (dsdt + place) placed) placed
          (dsdt_stands refl),
    )

-- the part that an FADT tells, whatever its ports are, with a clock or none
abbrev pub power_told : Bool → Fadt → Power
power_told clock t = record {
  sci = t.sci;
  profile = t.profile;
  event = t.pm1a_evt;
  control = t.pm1a_cnt;
  timer = t.pm_tmr;
  gpe = t.gpe0;
  gpe_len = t.gpe0_len;
  reset = t.reset_reg.address;
  reset_value = t.reset_value;
  century = t.century;
  rtc = clock;
  keyboard = t.iapc_boot_arch / 2 % 2 == 1;
}

power_from : ℕ → Bool → Power → Power
power_from reset keyboard power = record power { reset = reset; keyboard = keyboard }

address_back : (width access port : ℕ) → (register_at width access port).address ≡ port
address_back width access zero = refl
address_back width access (suc before) = ap (λ (register : GenericAddress). register.address) (at_port width access (suc before) (omega arith))

keyboard_back : (is : Bool) → ((if is then 3 else 0) / 2 % 2 == 1) ≡ is
keyboard_back true = refl
keyboard_back false = refl

pub told_back : (acpi : Acpi) (power : Power) → power_told power.rtc (fadt_of acpi power) ≡ power
unfolding power_from
told_back acpi power =
    ap (λ reset. power_from reset (boot_arch power / 2 % 2 == 1) power) (address_back 8 1 power.reset)
    ∙ ap (λ keyboard. power_from power.reset keyboard power) (keyboard_back power.keyboard)

-- its ports have 16 bits
fitted-fits : (n : ℕ) → n < 2 ^ 16 → (if nat_lt n (2 ^ 16) then n else 0) ≡ n
fitted-fits n fits = ap (λ is. cond is n 0) (lt-ltb n (2 ^ 16) fits)

fitted_from : Bool → ℕ → ℕ → ℕ → ℕ → ℕ → Fadt → Power
fitted_from clock event control timer gpe reset t = record {
  sci = t.sci;
  profile = t.profile;
  event = event;
  control = control;
  timer = timer;
  gpe = gpe;
  gpe_len = t.gpe0_len;
  reset = reset;
  reset_value = t.reset_value;
  century = t.century;
  rtc = clock;
  keyboard = t.iapc_boot_arch / 2 % 2 == 1;
}

pub power_back : (acpi : Acpi) (power : Power) → IsFittingPower power → power_in power.rtc (fadt_of acpi power) ≡ power
unfolding fitted_from
power_back acpi power fit =
    let t : Fadt = fadt_of acpi power in
    let short : ℕ → ℕ = λ n. if nat_lt n (2 ^ 16) then n else 0 in
    let port : t.reset_reg.address < 2 ^ 16 = omega (arith, address_back 8 1 power.reset, fit.reset) in
    ap (λ n. fitted_from power.rtc n (short t.pm1a_cnt) (short t.pm_tmr) (short t.gpe0) (short t.reset_reg.address) t) (fitted-fits t.pm1a_evt fit.event)
    ∙ ap (λ n. fitted_from power.rtc t.pm1a_evt n (short t.pm_tmr) (short t.gpe0) (short t.reset_reg.address) t) (fitted-fits t.pm1a_cnt fit.control)
    ∙ ap (λ n. fitted_from power.rtc t.pm1a_evt t.pm1a_cnt n (short t.gpe0) (short t.reset_reg.address) t) (fitted-fits t.pm_tmr fit.timer)
    ∙ ap (λ n. fitted_from power.rtc t.pm1a_evt t.pm1a_cnt t.pm_tmr n (short t.reset_reg.address) t) (fitted-fits t.gpe0 fit.gpe)
    ∙ ap (λ n. fitted_from power.rtc t.pm1a_evt t.pm1a_cnt t.pm_tmr t.gpe0 n t) (fitted-fits t.reset_reg.address port)
    ∙ told_back acpi power
