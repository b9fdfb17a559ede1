use Rattle.cfg_directory.proofs.Listings.{length-entries_of, files_are_listed, directory_is, count_of_files}
use Rattle.cfg_directory.proofs.laws.a_directory_lists_its_items.Goals as goal

pub returns : goal.returns
returns c = λ items lawful named.
    (length-entries_of items named, files_are_listed items lawful named, directory_is items, count_of_files items lawful)
