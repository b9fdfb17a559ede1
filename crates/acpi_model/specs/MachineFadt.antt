-- The FADT of a machine, and the part of a machine that it tells.
use Rattle.std.specs.Prelude.{ℕ, Bool, ◌*◌, ◌/◌, ◌%◌, ◌==◌, if◌then◌else◌}
use Rattle.machine_desc.specs.declared.machine.Acpi.{Acpi}
use Rattle.machine_desc.specs.declared.acpi_parts.Power.{Power}
use Rattle.machine_desc.specs.Fields.{fitted}
use Rattle.acpi_records.specs.declared.generic_address.GenericAddress.{GenericAddress}
use Rattle.acpi_records.specs.declared.fadt.Fadt.{Fadt}
use Rattle.acpi_records.specs.Header.{head_of}
use Rattle.acpi_model.specs.declared.link.FadtLinks.{FadtLinks}
use Rattle.acpi_model.specs.declared.link.Link.TheVariants.{Offset, Address}

-- no register
abbrev pub no_register : GenericAddress
no_register = record { space = 0; width = 0; offset = 0; access = 0; address = 0 }

-- a register of so many bits in I/O space, accessed so; none where its port is 0
abbrev pub register_at : ℕ → ℕ → ℕ → GenericAddress
register_at width access port =
    if port == 0 then no_register else record { space = 1; width = width; offset = 0; access = access; address = port }

-- Flags (ACPI 6.5, 5.2.9): WBINVD, PROC_C1, SLP_BUTTON, RTC_S4, TMR_VAL_EXT; and RESET_REG_SUP where there is a reset register.
abbrev pub fadt_flags : Power → ℕ
fadt_flags power = if power.reset == 0 then 0x1A5 else 0x5A5

-- legacy devices and a keyboard controller, where there is one (5.2.9.3)
abbrev pub boot_arch : Power → ℕ
boot_arch power = if power.keyboard then 3 else 0

-- the FADT of a machine: its blocks in I/O space, of the least lengths that the standard allows, and no second ones
abbrev pub fadt_of : Acpi → Power → Fadt
fadt_of acpi power = record {
  head = head_of acpi 6;
  profile = power.profile;
  sci = power.sci;
  smi_cmd = 0;
  acpi_enable = 0;
  acpi_disable = 0;
  s4bios_req = 0;
  pstate_cnt = 0;
  pm1a_evt = power.event;
  pm1b_evt = 0;
  pm1a_cnt = power.control;
  pm1b_cnt = 0;
  pm2_cnt = 0;
  pm_tmr = power.timer;
  gpe0 = power.gpe;
  gpe1 = 0;
  pm1_evt_len = 4;
  pm1_cnt_len = 2;
  pm2_cnt_len = 0;
  pm_tmr_len = 4;
  gpe0_len = power.gpe_len;
  gpe1_len = 0;
  gpe1_base = 0;
  cst_cnt = 0;
  p_lvl2_lat = 0x0FFF;
  p_lvl3_lat = 0x0FFF;
  flush_size = 0;
  flush_stride = 0;
  duty_offset = 0;
  duty_width = 0;
  day_alrm = 0;
  mon_alrm = 0;
  century = power.century;
  iapc_boot_arch = boot_arch power;
  flags = fadt_flags power;
  reset_reg = register_at 8 1 power.reset;
  reset_value = power.reset_value;
  arm_boot_arch = 0;
  minor = 5;
  x_pm1a_evt = register_at 32 2 power.event;
  x_pm1b_evt = no_register;
  x_pm1a_cnt = register_at 16 2 power.control;
  x_pm1b_cnt = no_register;
  x_pm2_cnt = no_register;
  x_pm_tmr = register_at 32 3 power.timer;
  x_gpe0 = register_at (8 * power.gpe_len) 1 power.gpe;
  x_gpe1 = no_register;
  sleep_control = no_register;
  sleep_status = no_register;
  hypervisor = 0;
}

-- Its pointers: the FACS and the DSDT stand at offsets of the file of the tables. The FACS is told in 64 bits alone, since it may be told
-- once, and the DSDT in both widths (5.2.9, FIRMWARE_CTRL and DSDT).
abbrev pub fadt_links : ℕ → ℕ → FadtLinks
fadt_links facs dsdt =
    record { firmware_ctrl = Address 0; dsdt = Offset dsdt; x_firmware_ctrl = Offset facs; x_dsdt = Offset dsdt }

-- The machine's part that an FADT tells, with the clock that a DSDT does. What has more bits than a description has for it is 0.
abbrev pub power_in : Bool → Fadt → Power
power_in clock t = record {
  sci = t.sci;
  profile = t.profile;
  event = fitted 16 t.pm1a_evt;
  control = fitted 16 t.pm1a_cnt;
  timer = fitted 16 t.pm_tmr;
  gpe = fitted 16 t.gpe0;
  gpe_len = t.gpe0_len;
  reset = fitted 16 t.reset_reg.address;
  reset_value = t.reset_value;
  century = t.century;
  rtc = clock;
  keyboard = t.iapc_boot_arch / 2 % 2 == 1;
}
