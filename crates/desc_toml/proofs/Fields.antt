-- The numbers of a machine that is read fit their fields.
use Rattle.std.proofs.Common.{◌≡◌, ℕ, zero, suc, ◌^◌, ◌<◌, ◌≤◌, Bool, true, false, ◌==◌, List, [], ◌∷◌, ◌++◌, length, Option, Some, None, nat_le, if◌then◌else◌}
use Rattle.std.proofs.Common.{inl, inr, arith, refl, sym, subst}
use Rattle.std.specs.Prelude.{IfSome}
use Rattle.std.specs.List.{list_all, AllByRecursion}
use Rattle.std.specs.Option.{option_map_or}
use Rattle.std.proofs.lemmas.Bool.{and_parts, leb-true}
use Rattle.desc_schema.specs.declared.value.Value.{Value}
use Rattle.desc_schema.specs.Form.{Form, Shape, Field, fields_at}
use Rattle.desc_schema.specs.Form as forms
use Rattle.desc_schema.specs.Taken.{first, rest, skip, value_at, number_to, number_if, uuid_if, count_of}
use Rattle.desc_schema.specs.Fits.{FitsForm, IsOne, AreParts, FitsShape, FitsField, FitsFields, FitsTable, Fits}
use Rattle.desc_schema.proofs.Fitting.{walked_fit}
use Rattle.desc_schema.proofs.UuidText.{small_parsed}
use Rattle.machine_desc.specs.declared.machine.Machine.{Machine}
use Rattle.machine_desc.specs.Fields.{IsFittingFirmware, IsFittingSocket, IsFittingSlot, IsFittingPower, IsFittingHpet, HasFittingFields}
use Rattle.machine_desc.specs.Fields.{IsFittingApic, IsFittingCpu, IsFittingIoApic, IsFittingOverride, IsFittingNmi, IsFittingNuma, IsFittingRoute}
use Rattle.machine_desc.specs.Fields.{IsFittingBridge}
use Rattle.desc_toml.specs.Keys.{schema}
use Rattle.desc_toml.specs.Values.{part_of, each_of, list_of, firmware_of, socket_of, slot_of, power_of, hpet_of, apic_of, cpu_of, io_apic_of}
use Rattle.desc_toml.specs.Values.{override_of, nmi_of, route_of, one_byte, text_taken, firmware_taken, socket_taken, slot_taken, power_taken, hpet_taken}
use Rattle.desc_toml.specs.Values.{apic_taken, cpu_taken, io_apic_taken, override_taken, nmi_taken, byte_taken, numa_taken, window_taken, route_taken}
use Rattle.desc_toml.specs.Values.{bridge_taken}
use Rattle.desc_toml.specs.Values.{front_of, arrays_of, tables_of, entries_of, acpi_parts_of, devices_of, behind_of, rest_of, machine_of}
use Rattle.desc_toml.specs.Reading.{Reads}
use Rattle.desc_schema.proofs.EachTable.{at_each}
use Rattle.desc_toml.proofs.Says.{values_walked}

-- a UUID has 128 bits
abbrev IsFittingValue : Value → Type 0
IsFittingValue (Value.Uuid n) = n < 2 ^ 128
IsFittingValue value = Unit {0}

abbrev AreFitting : List Value → Type 0
AreFitting values = AllByRecursion IsFittingValue values

fitting_append : (values more : List Value) → AreFitting values → AreFitting more → AreFitting (values ++ more)
fitting_append [] more fit others = others
fitting_append (value ∷ values) more fit others = (fit.0, fitting_append values more fit.1 others)

-- a default is no UUID
abbrev is_no_uuid : Value → Bool
is_no_uuid (Value.Uuid n) = false
is_no_uuid value = true

abbrev has_no_uuid : Field → Bool
has_no_uuid field = option_map_or is_no_uuid field.default true

abbrev have_no_uuid : List (List Field) → Bool
have_no_uuid tables = list_all (list_all has_no_uuid) tables

plain_fits : (value : Value) → is_no_uuid value ≡ true → IsFittingValue value
plain_fits (Value.Uuid n) is = absurd (cc)
plain_fits value is = tt

-- values that fit a schema without such defaults are fitting: one value, parts, those of a kind, those at a key, and those of a table

form_fits : (form : Form) (value : Value) → FitsForm form value → IsFittingValue value
form_fits forms.Text value (text, is) = subst IsFittingValue (sym is) tt
form_fits (forms.Number least most) value (n, is, _, _) = subst IsFittingValue (sym is) tt
form_fits forms.Flag value (flag, is) = subst IsFittingValue (sym is) tt
form_fits forms.Uuid value (text, bytes, read, is) = subst IsFittingValue (sym is) (small_parsed text bytes read)
form_fits (forms.Word words) value (n, is, _) = subst IsFittingValue (sym is) tt

one_fits : (form : Form) (values : List Value) → IsOne form values → AreFitting values
one_fits form values (value, is, fits) = subst AreFitting (sym is) (form_fits form value fits, tt)

parts_fit : (IsPart : List Value → Type 0) → ((part : List Value) → IsPart part → AreFitting part) → (n : ℕ) (values : List Value)
    → AreParts IsPart n values → AreFitting values
parts_fit IsPart fit zero values is = subst AreFitting (sym is) tt
parts_fit IsPart fit (suc n) values (part, others, is, first_is, are) =
    subst AreFitting (sym is) (fitting_append part others (fit part first_is) (parts_fit IsPart fit n others are))

shape_fits : (Inside : ℕ → List Value → Type 0) → ((table : ℕ) (values : List Value) → Inside table values → AreFitting values) → (shape : Shape)
    (values : List Value) → FitsShape Inside shape values → AreFitting values
shape_fits Inside fit (forms.One form) values fits = one_fits form values fits
shape_fits Inside fit (forms.Table table) values (others, is, inside) = subst AreFitting (sym is) (tt, fit table others inside)
shape_fits Inside fit (forms.Tables table) values (n, others, is, are) =
    subst AreFitting (sym is) (tt, parts_fit (Inside table) (fit table) n others are)
shape_fits Inside fit (forms.Values form) values (n, others, is, are) =
    subst AreFitting (sym is) (tt, parts_fit (IsOne form) (one_fits form) n others are)

default_fits : (default : Option Value) (value : Value) → option_map_or is_no_uuid default true ≡ true → default ≡ Some value → IsFittingValue value
default_fits None value plain is = absurd (cc)
default_fits (Some other) value plain is = let same : other ≡ value = cc in subst IsFittingValue same (plain_fits other plain)

field_fits : (Inside : ℕ → List Value → Type 0) → ((table : ℕ) (values : List Value) → Inside table values → AreFitting values) → (field : Field)
    (values : List Value) → has_no_uuid field ≡ true → FitsField Inside field values → AreFitting values
field_fits Inside fit field values plain fits = elim fits as (λ _. AreFitting values) [
  | inl left_out ↦ subst AreFitting (sym left_out.2) (default_fits field.default left_out.0 plain left_out.1, tt)
  | inr given ↦ shape_fits Inside fit field.shape values given
]

fields_fit : (Inside : ℕ → List Value → Type 0) → ((table : ℕ) (values : List Value) → Inside table values → AreFitting values) → (fields : List Field)
    (values : List Value) → list_all has_no_uuid fields ≡ true → FitsFields Inside fields values → AreFitting values
fields_fit Inside fit [] values plain is = subst AreFitting (sym is) tt
fields_fit Inside fit (field ∷ fields) values plain (part, others, is, here, there) =
    let both = and_parts (has_no_uuid field) (list_all has_no_uuid fields) plain in
    subst AreFitting (sym is)
    (fitting_append part others (field_fits Inside fit field part both.0 here) (fields_fit Inside fit fields others both.1 there))

table_fits : (tables : List (List Field)) → have_no_uuid tables ≡ true → (depth table : ℕ) (values : List Value) → FitsTable tables depth table values
    → AreFitting values
table_fits tables plain zero table values is = subst AreFitting (sym is) tt
table_fits tables plain (suc depth) table values fits =
    fields_fit (FitsTable tables depth) (table_fits tables plain depth) (fields_at tables table) values
    (at_each (list_all has_no_uuid) refl tables table plain) fits

-- what is left of fitting values is fitting, and so is the value at a place

rest_fits : (values : List Value) → AreFitting values → AreFitting (rest values)
rest_fits [] fit = tt
rest_fits (value ∷ values) fit = fit.1

skip_fits : (n : ℕ) (values : List Value) → AreFitting values → AreFitting (skip n values)
skip_fits zero values fit = fit
skip_fits (suc n) values fit = skip_fits n (rest values) (rest_fits values fit)

first_fits : (values : List Value) → AreFitting values → IsFittingValue (first values)
first_fits [] fit = tt
first_fits (value ∷ values) fit = fit.0

-- a part that leaves fitting values of fitting ones
abbrev LeavesFitting : {V : Type 0} → (List Value → V × List Value) → Type 0
LeavesFitting taken = (values : List Value) → AreFitting values → AreFitting (taken values).1

each_left : {V : Type 0} (taken : List Value → V × List Value) → LeavesFitting taken → (n : ℕ) (values : List Value) → AreFitting values
    → AreFitting (each_of taken n values).1
each_left taken leaves zero values fit = fit
each_left taken leaves (suc n) values fit = each_left taken leaves n (taken values).1 (leaves values fit)

list_left : {V : Type 0} (taken : List Value → V × List Value) → LeavesFitting taken → (values : List Value) → AreFitting values
    → AreFitting (list_of taken values).1
unfolding list_of
list_left taken leaves values fit = each_left taken leaves (count_of (first values)) (rest values) (rest_fits values fit)

uuid_fits : (value : Value) → IsFittingValue value → IfSome (uuid_if value) (λ uuid. uuid < 2 ^ 128)
uuid_fits (Value.Uuid n) fits = fits
uuid_fits value fits = tt

-- a number up to the most is within it, whatever the value is

within : (test : Bool) (n most : ℕ) → nat_le n most ≡ test → (if test then n else 0) ≤ most
within true n most is = leb-true n most is
within false n most is = omega arith

number_within : (most : ℕ) (value : Value) → number_to most value ≤ most
number_within most (Value.Number n) = within (nat_le n most) n most refl
number_within most value = omega arith

within_if : (test : Bool) (n most bound : ℕ) → nat_le n most ≡ test → most < bound → IfSome (if test then Some n else None) (λ number. number < bound)
within_if true n most bound is less = omega (arith, leb-true n most is, less)
within_if false n most bound is less = tt

number_if_within : (most bound : ℕ) (value : Value) → most < bound → IfSome (number_if most value) (λ number. number < bound)
number_if_within most bound (Value.Number n) less = within_if (nat_le n most) n most bound refl less
number_if_within most bound value less = tt

-- what holds of a part of any values holds of one that may be left out, and of each in a list

part_has : {V : Type 0} (P : V → Type 0) (taken : List Value → V × List Value) → ((values : List Value) → P (taken values).0) → (values : List Value)
    → IfSome (part_of taken values).0 P
unfolding part_of
part_has {V} P taken has values =
    elim (count_of (first values) == 0) as (λ test. IfSome (if◌then◌else◌ {A = Option V × List Value} test (None, rest values)
    (Some (taken (rest values)).0, (taken (rest values)).1)).0 P) [ true ↦ tt | false ↦ has (rest values) ]

each_has : {V : Type 0} (P : V → Type 0) (taken : List Value → V × List Value) → ((values : List Value) → P (taken values).0) → (n : ℕ)
    (values : List Value) → AllByRecursion P (each_of taken n values).0
each_has P taken has zero values = tt
each_has P taken has (suc n) values = (has values, each_has P taken has n (taken values).1)

list_has : {V : Type 0} (P : V → Type 0) (taken : List Value → V × List Value) → ((values : List Value) → P (taken values).0) → (values : List Value)
    → AllByRecursion P (list_of taken values).0
unfolding list_of
list_has P taken has values = each_has P taken has (count_of (first values)) (rest values)

firmware_fits : (values : List Value) → IsFittingFirmware (firmware_of values)
firmware_fits values = record {
  major = omega (arith, number_within 0xFF (value_at 3 values));
  minor = omega (arith, number_within 0xFF (value_at 4 values));
}

socket_fits : (values : List Value) → IsFittingSocket (socket_of values)
socket_fits values = omega (arith, number_within 0xFFFF (value_at 8 values))

slot_fits : (values : List Value) → IsFittingSlot (slot_of values)
slot_fits values = record {
  kind = omega (arith, number_within 0xFF (value_at 1 values));
  width = omega (arith, number_within 0xFF (value_at 2 values));
  id = omega (arith, number_within 0xFFFF (value_at 4 values));
  bus = omega (arith, number_within 0xFF (value_at 5 values));
}

power_fits : (values : List Value) → IsFittingPower (power_of values)
power_fits values = record {
  sci = omega (arith, number_within 0xFFFF (value_at 0 values));
  profile = omega (arith, number_within 0xFF (value_at 1 values));
  event = omega (arith, number_within 0xFFFF (value_at 2 values));
  control = omega (arith, number_within 0xFFFF (value_at 3 values));
  timer = omega (arith, number_within 0xFFFF (value_at 4 values));
  gpe = omega (arith, number_within 0xFFFF (value_at 5 values));
  gpe_len = omega (arith, number_within 0xFF (value_at 6 values));
  reset = omega (arith, number_within 0xFFFF (value_at 7 values));
  reset_value = omega (arith, number_within 0xFF (value_at 8 values));
  century = omega (arith, number_within 0xFF (value_at 9 values));
}

hpet_fits : (values : List Value) → IsFittingHpet (hpet_of values)
hpet_fits values = record {
  address = omega (arith, number_within 0xFFFFFFFF (value_at 0 values));
  block_id = omega (arith, number_within 0xFFFFFFFF (value_at 1 values));
  number = omega (arith, number_within 0xFF (value_at 2 values));
  min_tick = omega (arith, number_within 0xFFFF (value_at 3 values));
}

apic_fits : (values : List Value) → IsFittingApic (apic_of values)
apic_fits values = omega (arith, number_within 0xFFFFFFFF (value_at 0 values))

cpu_fits : (values : List Value) → IsFittingCpu (cpu_of values)
cpu_fits values = record {
  apic = omega (arith, number_within 0xFFFFFFFF (value_at 0 values));
  node = omega (arith, number_within 0xFF (value_at 1 values));
}

io_apic_fits : (values : List Value) → IsFittingIoApic (io_apic_of values)
io_apic_fits values = record {
  id = omega (arith, number_within 0xFF (value_at 0 values));
  address = omega (arith, number_within 0xFFFFFFFF (value_at 1 values));
  gsi = omega (arith, number_within 0xFFFFFFFF (value_at 2 values));
}

override_fits : (values : List Value) → IsFittingOverride (override_of values)
override_fits values = omega (arith, number_within 0xFFFFFFFF (value_at 1 values))

nmi_fits : (values : List Value) → IsFittingNmi (nmi_of values)
nmi_fits values = number_if_within 0xFFFFFFFF (2 ^ 32) (value_at 0 values) (omega arith)

byte_fits : (values : List Value) → one_byte values < 2 ^ 8
byte_fits values = omega (arith, number_within 0xFF (first values))

numa_fits : (values : List Value) → IsFittingNuma (numa_taken values).0
numa_fits values = list_has (λ distance. distance < 2 ^ 8) byte_taken byte_fits (skip 1 values)

route_fits : (values : List Value) → IsFittingRoute (route_of values)
route_fits values = omega (arith, number_within 0xFFFFFFFF (value_at 2 values))

bridge_fits : (values : List Value) → IsFittingBridge (bridge_taken values).0
bridge_fits values = record {
  last_bus = omega (arith, number_within 0xFF (value_at 1 values));
  routes = list_has IsFittingRoute route_taken route_fits (list_of window_taken (skip 2 values)).1;
}

-- the machine of fitting values
machine_fits : (values : List Value) → AreFitting values → HasFittingFields (machine_of values)
unfolding front_of arrays_of tables_of entries_of acpi_parts_of devices_of behind_of rest_of machine_of
machine_fits values fit =
    let strings = list_of text_taken (skip 2 values) in
    let left = list_left text_taken rest_fits (skip 2 values) (skip_fits 2 values fit) in
    record {
      uuids = record {
        system = uuid_fits (value_at 6 (skip 2 strings.1)) (first_fits (skip 8 strings.1) (skip_fits 8 strings.1 left));
        generation = uuid_fits (first strings.1) (first_fits strings.1 left);
      };
      firmware = part_has IsFittingFirmware firmware_taken firmware_fits _;
      sockets = list_has IsFittingSocket socket_taken socket_fits _;
      slots = list_has IsFittingSlot slot_taken slot_fits _;
      power = part_has IsFittingPower power_taken power_fits _;
      hpet = part_has IsFittingHpet hpet_taken hpet_fits _;
      apic = part_has IsFittingApic apic_taken apic_fits _;
      cpus = list_has IsFittingCpu cpu_taken cpu_fits _;
      io_apics = list_has IsFittingIoApic io_apic_taken io_apic_fits _;
      overrides = list_has IsFittingOverride override_taken override_fits _;
      nmis = list_has IsFittingNmi nmi_taken nmi_fits _;
      numa = part_has IsFittingNuma numa_taken numa_fits _;
      bridge = part_has IsFittingBridge bridge_taken bridge_fits _;
    }

-- and so one that is read
pub read_fits : (bytes : List ℕ) (m : Machine) → Reads bytes m → HasFittingFields m
read_fits bytes m is =
    let (root, values, walk, made) = values_walked bytes m is in
    let fits : Fits schema values = walked_fit schema root values walk in
    subst HasFittingFields (sym made) (machine_fits values (table_fits schema refl (length schema) 0 values fits))
