use Rattle.std.proofs.Common.{◌≡◌, List, ◌++◌, take, drop, Result, Ok, Err, OnOk, append_assoc, ◌∙◌}
use Rattle.desc_schema.specs.declared.value.Value.{Value}
use Rattle.desc_toml.specs.Printed.{power_values}
use Rattle.desc_toml.proofs.values.PowerValued.put.Goals as goal

-- what was put first, and then what comes behind it
both_put : {A E : Type 0} (result : Result A E) (old middle new first last : List Value) → middle ≡ old ++ first → OnOk result (new ≡ middle ++ last)
    → OnOk result (new ≡ old ++ (first ++ last))
both_put (Ok x) old middle new first last is behind = behind ∙ rw is (append_assoc old first last)
both_put (Err e) old middle new first last is behind = behind

pub returns : goal.returns
returns c =
    let all = power_values c.args.self.now in
    both_put c.put_registers.result _ _ _ (take 7 all) (drop 7 all) c.in_ok-put_blocks.ensures c.put_registers.ensures
