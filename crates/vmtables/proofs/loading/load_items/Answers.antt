use Rattle.std.proofs.Common.{Ok, Err, inl, inr, refl, ap, sym, subst, ◌∙◌}
use Rattle.zone_alloc.specs.Allocators.{AllocState}
use Rattle.command_acts.specs.Allocators.{AreZonesOf, MayAnswer}
use Rattle.vmtables.proofs.ItemsLoaded.{zones_are, items_loaded, failed_so, unloaded_so}
use Rattle.vmtables.proofs.loading.load_items.Goals as goal

pub returns-in_err-begin-clause-err : goal.returns-in_err-begin-clause-err
returns-in_err-begin-clause-err g c =
    unloaded_so _ _ _ _ _ _ c.from_residual.result c.from_residual.ensures.1 (refl, inl (c.in_err-begin.ensures.err, refl))

pub returns-in_err-begin-2-clause-err : goal.returns-in_err-begin-2-clause-err
returns-in_err-begin-2-clause-err g c =
    unloaded_so _ _ _ _ _ _ c.from_residual-in_err-begin-2.result c.from_residual-in_err-begin-2.ensures.1 (refl, inr c.in_ok-begin.ensures.ok)

pub returns-in_err-load-clause-err : goal.returns-in_err-load-clause-err
returns-in_err-load-clause-err g c =
    let began = c.in_ok-begin-2.ensures in
    failed_so (MayAnswer g.A.ZoneAlloc.state g.A.ZoneAlloc.gives) c.args.items c.args.top c.args.setting.now c.in_err-load.field-0.0 _ _
    c.from_residual-in_err-load.result c.from_residual-in_err-load.ensures.1
    (items_loaded (MayAnswer g.A.ZoneAlloc.state g.A.ZoneAlloc.gives) c.args.items c.args.top c.args.setting.now (Err c.in_err-load.field-0.0) _ _
    c.begin.new.self.load
    (g.A.ZoneAlloc.state c.begin-2.new.self) (g.C.Schedule.plan c.begin-3.new.self)
    (record {
      was_begun = c.in_ok-begin.ensures.ok;
      loaded = rw c.in_err-load.was at c.load.ensures.loaded;
      plan_is = c.begin-3.ensures.plan;
      events_stay = c.load.ensures.plan;
      begun_stays = c.load.ensures.begun;
      zones = subst (AreZonesOf c.args.top) (sym (ap (λ (s : AllocState). s.begun.zones) began)) (zones_are c.zones_of.result c.args.top
          c.zones_of.ensures.high_start c.zones_of.ensures.high_end c.zones_of.ensures.fseg_start c.zones_of.ensures.fseg_end);
      policy = ap (λ (s : AllocState). s.begun.policy) began;
      refusals = ap (λ (s : AllocState). s.refusals) began;
      no_room = λ index is. c.load.ensures.no_room index (c.in_err-load.was ∙ is);
      sound = λ other. c.load.ensures.sound (λ index is. other index (sym c.in_err-load.was ∙ is));
    }))

pub returns-clause-ok : goal.returns-clause-ok
returns-clause-ok g c =
    let began = c.in_ok-begin-2.ensures in
    items_loaded (MayAnswer g.A.ZoneAlloc.state g.A.ZoneAlloc.gives) c.args.items c.args.top c.args.setting.now (Ok tt) _ _ c.begin.new.self.load
    (g.A.ZoneAlloc.state c.begin-2.new.self) (g.C.Schedule.plan c.begin-3.new.self)
    (record {
      was_begun = c.in_ok-begin.ensures.ok;
      loaded = rw c.in_ok-load.was at c.load.ensures.loaded;
      plan_is = c.begin-3.ensures.plan;
      events_stay = c.load.ensures.plan;
      begun_stays = c.load.ensures.begun;
      zones = subst (AreZonesOf c.args.top) (sym (ap (λ (s : AllocState). s.begun.zones) began)) (zones_are c.zones_of.result c.args.top
          c.zones_of.ensures.high_start c.zones_of.ensures.high_end c.zones_of.ensures.fseg_start c.zones_of.ensures.fseg_end);
      policy = ap (λ (s : AllocState). s.begun.policy) began;
      refusals = ap (λ (s : AllocState). s.refusals) began;
      no_room = λ index is. c.load.ensures.no_room index (c.in_ok-load.was ∙ is);
      sound = λ other. c.load.ensures.sound (λ index is. other index (sym c.in_ok-load.was ∙ is));
    })
