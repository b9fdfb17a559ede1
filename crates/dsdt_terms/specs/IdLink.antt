-- What the device of a generation's id tells as the low half of the id's address.
use Rattle.aml_terms.specs.declared.term.Term.{Term}
use Rattle.aml_terms.specs.declared.term.Term.TheVariants.{Int, Fixed}
use Rattle.dsdt_terms.specs.declared.generation.IdLink.{IdLink}
use Rattle.dsdt_terms.specs.declared.generation.IdLink.TheVariants.{Written, Kept}
use Rattle.dsdt_terms.specs.Dsdt.{id_offset}

abbrev pub low_half : IdLink → Term
low_half Written = Fixed id_offset
low_half Kept = Int 0
