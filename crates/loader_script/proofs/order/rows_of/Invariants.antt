use Rattle.std.proofs.Common.{◌≡◌, ◌≤◌, length, take, vec_len, vec_capacity}
use Rattle.std.specs.List.{AllByRecursion}
use Rattle.vt_outside.specs.Name.{IsName}
use Rattle.loader_script.specs.declared.refusing.FileInfo.{FileInfo}
use Rattle.loader_script.specs.Order.{rows_from}
use Rattle.loader_script.proofs.order.rows_of.Given as goal

abbrev pub invariant-loop-file : goal.invariant-loop-file
invariant-loop-file l = record {
  rows : l.rows.items ≡ rows_from 0 (take l.file-index l.files);
  names : AllByRecursion (λ (file : FileInfo). IsName file.name) (take l.file-index l.files);
  len : vec_len l.rows ≡ l.file-index;
  room : length l.files ≤ vec_capacity l.rows;
}
