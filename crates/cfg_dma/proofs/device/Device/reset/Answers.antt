use Rattle.std.proofs.Common.{◌≡◌, ◌+◌, ◌-◌, ℕ, List, None, length, vec_capacity, vec_len, arith, ap, ap₂, sym, subst, ◌∙◌}
use Rattle.cfg_directory.specs.declared.item.Item.{Item}
use Rattle.cfg_directory.specs.Items.{IsItems, directory_of}
use Rattle.cfg_directory.specs.Restored.{AreKept, restored}
use Rattle.cfg_directory.proofs.Restored.{kept_still, restored_again, restored_directory, restored_lawful}
use Rattle.cfg_dma.specs.declared.transfer.Finished.{Finished}
use Rattle.cfg_dma.specs.Device.{DeviceState, reset_device}
use Rattle.cfg_dma.proofs.device.Device.reset.Goals as goal

pub invariant_of-self : goal.invariant_of-self
invariant_of-self c =
    let inside = c.self.inside in
    let invariant = c.self.invariant in
    let now = c.restore.ensures ∙ ap (restored inside.items) c.as_slice.ensures in (
      (
        record {
          is = invariant.0.0.is ∙ sym (ap directory_of now ∙ restored_directory inside.items inside.kept invariant.0.1);
          small = invariant.0.0.small;
        },
        subst (λ (is : List Item). AreKept is inside.kept) (sym now) (kept_still inside.items inside.kept invariant.0.1),
      ),
      record {
        items = subst IsItems (sym now) (restored_lawful inside.items inside.kept invariant.0.1 invariant.1.items);
        offset = omega arith;
        flight = tt;
      },
    )

pub returns : goal.returns
returns c =
    let inside = c.self.inside in
    let cleared = c.clear.new.self in
    let its = restored inside.items inside.kept in
    let now = c.restore.ensures ∙ ap (restored inside.items) c.as_slice.ensures in
    let opening : restored c.restore.new.self inside.kept ≡ its =
    ap (λ (is : List Item). restored is inside.kept) now ∙ restored_again inside.items inside.kept in
    let room : vec_capacity cleared - vec_len cleared ≡ length inside.finished.items + (vec_capacity inside.finished - vec_len inside.finished) =
    omega (arith, c.clear.ensures.len, c.clear.ensures.capacity, inside.finished.ok.0, inside.finished.ok.1) in
    let made : List Item → List Item → List Finished → ℕ → DeviceState = λ items opening finished spare. record {
      items = items;
      opening = opening;
      select = 0;
      offset = 0;
      address = 0;
      flight = None;
      finished = finished;
      spare = spare;
    } in
    ap₂ (λ (items : List Item) (opening : List Item). made items opening cleared.items (vec_capacity cleared - vec_len cleared)) now opening
    ∙ ap₂ (λ (finished : List Finished) (spare : ℕ). made its its finished spare) c.clear.ensures.items room
    ∙ ap reset_device c.self.view_is
