-- The Fixed ACPI Description Table (ACPI 6.5, 5.2.9).
use Rattle.std.specs.Prelude.{List, [], ◌∷◌, ◌++◌}
use Rattle.vt_layout.specs.declared.value.Value.{Value}
use Rattle.vt_layout.specs.Values.{skip, value_at, byte_of, word_of, dword_of, qword_of}
use Rattle.vt_layout.specs.Fields.{Field, byte, word, dword, qword, reserved}
use Rattle.acpi_records.specs.declared.fadt.Fadt.{Fadt}
use Rattle.acpi_records.specs.Header.{head_fields, head_made}
use Rattle.acpi_records.specs.GenericAddress.{address_fields, address_made}

-- its fields, with 0 for each of the four addresses by which it leads to the FACS and to the DSDT, in the rows 9, 10, 55 and 56
abbrev pub fadt_fields : Fadt → List Field
fadt_fields t =
    head_fields t.head ++ dword 0 ∷ dword 0 ∷ reserved 1 ∷ byte t.profile ∷ word t.sci ∷ dword t.smi_cmd ∷ byte t.acpi_enable ∷
    byte t.acpi_disable ∷ byte t.s4bios_req ∷ byte t.pstate_cnt ∷ dword t.pm1a_evt ∷ dword t.pm1b_evt ∷ dword t.pm1a_cnt ∷
    dword t.pm1b_cnt ∷ dword t.pm2_cnt ∷ dword t.pm_tmr ∷ dword t.gpe0 ∷ dword t.gpe1 ∷ byte t.pm1_evt_len ∷ byte t.pm1_cnt_len ∷
    byte t.pm2_cnt_len ∷ byte t.pm_tmr_len ∷ byte t.gpe0_len ∷ byte t.gpe1_len ∷ byte t.gpe1_base ∷ byte t.cst_cnt ∷ word t.p_lvl2_lat ∷
    word t.p_lvl3_lat ∷ word t.flush_size ∷ word t.flush_stride ∷ byte t.duty_offset ∷ byte t.duty_width ∷ byte t.day_alrm ∷
    byte t.mon_alrm ∷ byte t.century ∷ word t.iapc_boot_arch ∷ reserved 1 ∷ dword t.flags ∷ address_fields t.reset_reg ++
    byte t.reset_value ∷ word t.arm_boot_arch ∷ byte t.minor ∷ qword 0 ∷ qword 0 ∷ address_fields t.x_pm1a_evt ++
    address_fields t.x_pm1b_evt ++ address_fields t.x_pm1a_cnt ++ address_fields t.x_pm1b_cnt ++ address_fields t.x_pm2_cnt ++
    address_fields t.x_pm_tmr ++ address_fields t.x_gpe0 ++ address_fields t.x_gpe1 ++ address_fields t.sleep_control ++
    address_fields t.sleep_status ++ qword t.hypervisor ∷ []

abbrev pub fadt_made : List Value → Fadt
fadt_made values = record {
  head = head_made values;
  profile = byte_of (value_at 12 values);
  sci = word_of (value_at 13 values);
  smi_cmd = dword_of (value_at 14 values);
  acpi_enable = byte_of (value_at 15 values);
  acpi_disable = byte_of (value_at 16 values);
  s4bios_req = byte_of (value_at 17 values);
  pstate_cnt = byte_of (value_at 18 values);
  pm1a_evt = dword_of (value_at 19 values);
  pm1b_evt = dword_of (value_at 20 values);
  pm1a_cnt = dword_of (value_at 21 values);
  pm1b_cnt = dword_of (value_at 22 values);
  pm2_cnt = dword_of (value_at 23 values);
  pm_tmr = dword_of (value_at 24 values);
  gpe0 = dword_of (value_at 25 values);
  gpe1 = dword_of (value_at 26 values);
  pm1_evt_len = byte_of (value_at 27 values);
  pm1_cnt_len = byte_of (value_at 28 values);
  pm2_cnt_len = byte_of (value_at 29 values);
  pm_tmr_len = byte_of (value_at 30 values);
  gpe0_len = byte_of (value_at 31 values);
  gpe1_len = byte_of (value_at 32 values);
  gpe1_base = byte_of (value_at 33 values);
  cst_cnt = byte_of (value_at 34 values);
  p_lvl2_lat = word_of (value_at 35 values);
  p_lvl3_lat = word_of (value_at 36 values);
  flush_size = word_of (value_at 37 values);
  flush_stride = word_of (value_at 38 values);
  duty_offset = byte_of (value_at 39 values);
  duty_width = byte_of (value_at 40 values);
  day_alrm = byte_of (value_at 41 values);
  mon_alrm = byte_of (value_at 42 values);
  century = byte_of (value_at 43 values);
  iapc_boot_arch = word_of (value_at 44 values);
  flags = dword_of (value_at 46 values);
  reset_reg = address_made (skip 47 values);
  reset_value = byte_of (value_at 52 values);
  arm_boot_arch = word_of (value_at 53 values);
  minor = byte_of (value_at 54 values);
  x_pm1a_evt = address_made (skip 57 values);
  x_pm1b_evt = address_made (skip 62 values);
  x_pm1a_cnt = address_made (skip 67 values);
  x_pm1b_cnt = address_made (skip 72 values);
  x_pm2_cnt = address_made (skip 77 values);
  x_pm_tmr = address_made (skip 82 values);
  x_gpe0 = address_made (skip 87 values);
  x_gpe1 = address_made (skip 92 values);
  sleep_control = address_made (skip 97 values);
  sleep_status = address_made (skip 102 values);
  hypervisor = qword_of (value_at 107 values);
}
