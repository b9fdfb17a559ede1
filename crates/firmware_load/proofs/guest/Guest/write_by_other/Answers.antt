use Rattle.std.proofs.Common.{◌≡◌, ℕ, false, not, refl, ap, sym, ◌∙◌}
use Rattle.std.proofs.lemmas.Bool.{and_from}
use Rattle.vt_bytes.specs.Memory.{Memory, is_ram}
use Rattle.vt_bytes.proofs.Seen.{ram_tested}
use Rattle.load_states.specs.Guarded.{is_guarded}
use Rattle.firmware_load.proofs.Touching.{written_touched}
use Rattle.firmware_load.proofs.guest.Guest.write_by_other.Goals as goal

pub returns-then-not-is_guarded-clause-touches : goal.returns-then-not-is_guarded-clause-touches
returns-then-not-is_guarded-clause-touches c =
    let top = c.args.self.now.memory.memory.top in
    let free : is_guarded top c.args.addr ≡ false =
    ap (λ (t : ℕ). is_guarded t c.args.addr) (sym c.top.ensures.value) ∙ sym c.is_guarded.ensures ∙ c.if-not-is_guarded.true in
    written_touched c.args.self.now _ c.args.addr c.args.byte refl (ap (λ (m : Memory). m.top) c.write.ensures.after)
    (and_from (is_ram top c.args.addr) (not (is_guarded top c.args.addr)) (ram_tested top c.args.addr (c.if-is_ram.ensures.0 refl)) (ap not free))
    c.write.ensures.touched
