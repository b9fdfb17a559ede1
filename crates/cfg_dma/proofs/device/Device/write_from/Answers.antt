use Rattle.std.proofs.Common.{◌+◌, ◌-◌, vec_capacity, vec_len, arith, ap, refl, sym, subst, ◌∙◌}
use Rattle.vt_bytes.specs.Memory.{bytes_at}
use Rattle.cfg_directory.specs.Items.{with_bytes_at}
use Rattle.cfg_dma.specs.Device.{DeviceState, LieInFile, FitsIn, IsWritable, advanced}
use Rattle.cfg_dma.proofs.Written.{fits_small}
use Rattle.cfg_dma.proofs.Moved.{written_device, written_is}
use Rattle.cfg_dma.proofs.device.Device.write_from.Goals as goal

pub overflow_add-self : goal.overflow_add-self
overflow_add-self c =
    let fits : FitsIn c.self.inside.items c.self.inside.select (c.self.inside.offset + c.args.count) =
    subst (λ (d : DeviceState). LieInFile d c.args.count) (sym c.self.view_is) c.requires.fits in
    omega (
      arith,
      fits_small c.self.inside.items c.self.inside.select (c.self.inside.offset + c.args.count) c.self.invariant.1.items fits,
    )

pub invariant_of-self : goal.invariant_of-self
invariant_of-self c =
    let fits : FitsIn c.self.inside.items c.self.inside.select (c.self.inside.offset + c.args.count) =
    subst (λ (d : DeviceState). LieInFile d c.args.count) (sym c.self.view_is) c.requires.fits in
    let writable : IsWritable c.self.inside.items c.self.inside.select =
    subst (λ (d : DeviceState). IsWritable d.items d.select) (sym c.self.view_is) c.requires.writable in
    written_device c.self.inside.items c.put_bytes.new.items c.self.inside.kept c.self.inside.directory c.self.inside.select c.self.inside.offset c.self.inside.address
    c.args.count c.args.address (vec_capacity c.self.inside.finished - vec_len c.self.inside.finished) c.self.inside.flight c.self.inside.finished.items
    c.args.memory.now.memory c.self.invariant.1.items c.put_bytes.ensures.kept c.self.invariant.0.0 c.self.invariant.0.1 fits writable
    c.put_bytes.ensures.after
    (ap (λ (d : DeviceState). d.flight) c.self.view_is ∙ c.requires.idle)

pub returns : goal.returns
returns c =
    let fits = subst (λ (d : DeviceState). LieInFile d c.args.count) (sym c.self.view_is) c.requires.fits in
    let writable = subst (λ (d : DeviceState). IsWritable d.items d.select) (sym c.self.view_is) c.requires.writable in
    written_is _ c.put_bytes.new.items c.self.inside.kept c.args.memory.now.memory c.args.address c.args.count c.self.invariant.1.items refl
    c.self.invariant.0.1 fits writable c.put_bytes.ensures.after
    ∙ ap (λ (d : DeviceState). record (advanced d c.args.count) {
      items = with_bytes_at d.items d.select d.offset
          (bytes_at c.args.memory.now.memory c.args.address c.args.count);
    })
    c.self.view_is
