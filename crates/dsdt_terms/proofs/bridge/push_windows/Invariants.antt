use Rattle.std.proofs.Common.{◌≡◌, ◌++◌, map, take}
use Rattle.dsdt_terms.specs.Bridge.{window_item}
use Rattle.dsdt_terms.proofs.bridge.push_windows.Given as goal

abbrev pub invariant-loop-window : goal.invariant-loop-window
invariant-loop-window l = l.items ≡ l.fn.items ++ map window_item (take l.window-index l.windows)
