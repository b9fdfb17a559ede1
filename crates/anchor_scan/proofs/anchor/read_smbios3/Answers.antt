use Rattle.std.proofs.Common.{ℕ, ◌+◌, List, arith, ap, ◌∙◌}
use Rattle.vt_layout.specs.declared.row.Row.{Row}
use Rattle.vt_layout.specs.Reading.{read_number}
use Rattle.anchor_scan.proofs.ReadAndSeen.{number_there}
use Rattle.anchor_scan.proofs.anchor.read_smbios3.Goals as goal

pub returns : goal.returns
returns c =
    let m = c.args.memory.now.memory in
    let address = c.args.address in
    let bytes = c.copy_out.new.bytes in
    let rows = c.anchor_rows-rows.ensures.rows in
    let number = λ (row : ℕ). ap (λ (all : List Row). read_number row all bytes) rows in
    let there = λ (place offset width value : ℕ). number_there m address 24 place offset width value bytes c.requires c.copy_out.ensures in (
      there (address + 5 + 1) 6 1 c.read_u8.result (omega arith) (omega arith) (c.read_u8.ensures ∙ number 2),
      (
        there (address + 5 + 1 + 1) 7 1 c.read_u8-2.result (omega arith) (omega arith) (c.read_u8-2.ensures ∙ number 3),
        (
          there (address + 5 + 1 + 1 + 1) 8 1 c.read_u8-3.result (omega arith) (omega arith) (c.read_u8-3.ensures ∙ number 4),
          (
            there (address + 5 + 1 + 1 + 1 + 1) 9 1 c.read_u8-4.result (omega arith) (omega arith) (c.read_u8-4.ensures ∙ number 5),
            (
              tt,
              (
                tt,
                (
                  there (address + 5 + 1 + 1 + 1 + 1 + 1 + 1 + 1) 12 4 c.read_u32.result (omega arith) (omega arith) (c.read_u32.ensures ∙ number 8),
                  (
                    there (address + 5 + 1 + 1 + 1 + 1 + 1 + 1 + 1 + 4) 16 8 c.read_u64.result (omega arith) (omega arith) (c.read_u64.ensures ∙ number 9),
                    tt,
                  ),
                ),
              ),
            ),
          ),
        ),
      ),
    )
