use Rattle.std.proofs.Common.{◌≡◌, ℕ, ◌+◌, ◌-◌, ◌≤◌, List, length, take, drop, Some, arith, ap, subst, ◌∙◌}
use Rattle.std.proofs.lemmas.List.{length-take-le}
use Rattle.std.proofs.lemmas.Result.{IfOk-weaker}
use Rattle.vt_bytes.specs.View.{View, bytes_in}
use Rattle.vt_bytes.proofs.Views.{bytes_in-part, length-bytes_in}
use Rattle.acpi_decode.proofs.EntriesInTurn.{least_2}
use Rattle.acpi_decode.proofs.entries.read_body.Goals as goal

-- what stands behind the type and the length, where the whole entry was read into the front of an array
body_there : (view : View) (at total size : ℕ) (room bytes : List ℕ) → size ≡ total → size ≤ length room → 2 ≤ total
    → bytes_in view at (length (take size room)) ≡ Some bytes → bytes_in view (at + 2) (total - 2) ≡ Some (take (length bytes - 2) (drop 2 bytes))
body_there view at total size room bytes is fits two there =
    let whole : length (take size room) ≡ total = length-take-le size room fits ∙ is in
    let read : bytes_in view at total ≡ Some bytes = subst (λ n. bytes_in view at n ≡ Some bytes) whole there in
    let left : total - 2 ≡ length bytes - 2 = omega (arith, length-bytes_in view at total bytes read) in
    bytes_in-part view at total bytes 2 (total - 2) read (omega (arith, two)) ∙ ap (λ n. Some (take n (drop 2 bytes))) left

pub returns : goal.returns
returns g c =
    let two = least_2 (g.R.EntryReader.types c.args.head.kind) in
    IfOk-weaker c.read.result _ _
    (λ e is. (
      _,
      body_there (g.V.MemView.seen c.args.view.now) c.args.at c.args.head.total c.from.result _ c.copy_out.new.bytes c.from.ensures (omega arith)
          (omega (arith, two, c.requires.enough)) c.copy_out.ensures,
      is,
    ))
    c.read.ensures
