use Rattle.std.proofs.Common.{◌≡◌, ◌≤◌, take}
use Rattle.acpi_model.specs.Maker.{unpadded}
use Rattle.acpi_told.proofs.maker.unpadded_length.Given as goal

abbrev pub invariant-loop-place : goal.invariant-loop-place
invariant-loop-place l = record {
  within : l.length ≤ l.place;
  front : take l.length l.padded ≡ unpadded (take l.place l.padded);
}
