use Rattle.std.proofs.Common.{◌≡◌, ◌+◌, ◌-◌, length, Some, arith, ap, sym, subst}
use Rattle.vt_bytes.specs.View.{bytes_in}
use Rattle.vt_bytes.proofs.Views.{length-bytes_in}
use Rattle.acpi_decode.proofs.Dsdts.{refused_spell_none, block_stands}
use Rattle.acpi_decode.proofs.dsdt.read_definitions.Goals as goal

pub decode_terms-requires : goal.decode_terms-requires
decode_terms-requires g c =
    let seen = g.V.MemView.seen c.args.view.now in
    let long = length-bytes_in seen (c.args.address + 36) (c.args.length - 36) c.in_ok-block.block c.in_ok-block.ensures in
    omega (arith, long, ap length c.as_slice.ensures, c.ranges.length.fits)

pub returns-in-Ok : goal.returns-in-Ok
returns-in-Ok g c =
    let seen = g.V.MemView.seen c.args.view.now in
    let there = subst (λ block. bytes_in seen (c.args.address + 36) (c.args.length - 36) ≡ Some block) (sym c.as_slice.ensures) c.in_ok-block.ensures in
    record {
      total = c.args.length;
      block = c.as_slice.result.now;
      stands = block_stands seen c.args.address c.args.head c.args.length c.as_slice.result.now c.requires.passes c.requires.head c.requires.told there;
      spelled = c.in-Ok.ensures.spelled;
    }

pub returns : goal.returns
returns g c =
    let seen = g.V.MemView.seen c.args.view.now in
    let there = subst (λ block. bytes_in seen (c.args.address + 36) (c.args.length - 36) ≡ Some block) (sym c.as_slice.ensures) c.in_ok-block.ensures in
    record {
      block = c.as_slice.result.now;
      stands = block_stands seen c.args.address c.args.head c.args.length c.as_slice.result.now c.requires.passes c.requires.head c.requires.told there;
      foreign = refused_spell_none c.as_slice.result.now c.in-Err.fault c.in_default.not-OutOfMemory c.in-Err.ensures.exact;
    }
