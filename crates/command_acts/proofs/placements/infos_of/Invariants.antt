use Rattle.std.proofs.Common.{◌≡◌, ◌≤◌, length, take, vec_len, vec_capacity}
use Rattle.loader_script.specs.Run.{infos_of}
use Rattle.cfg_directory.specs.Files.{files_of}
use Rattle.command_acts.proofs.placements.infos_of.Given as goal

abbrev pub invariant-loop-item : goal.invariant-loop-item
invariant-loop-item l = record {
  infos : l.infos.items ≡ infos_of (files_of (take l.item-index l.items));
  len : vec_len l.infos ≡ l.item-index;
  room : length l.items ≤ vec_capacity l.infos;
}
