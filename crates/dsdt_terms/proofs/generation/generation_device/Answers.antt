use Rattle.std.proofs.Common.{[], ◌∷◌, codes}
use Rattle.aml_terms.specs.declared.term.Term.TheVariants.{Int, Chars, Package}
use Rattle.dsdt_terms.specs.Names.{name}
use Rattle.dsdt_terms.specs.IdLink.{low_half}
use Rattle.dsdt_terms.proofs.Pushed.{of_values, three_pushed}
use Rattle.dsdt_terms.proofs.generation.generation_device.Goals as goal

pub returns : goal.returns
returns c =
    let id = name (codes "_HID") (Chars (codes "QEMUVGID")) in
    let kind = name (codes "_CID") (Chars (codes "VM_Gen_Counter")) in
    let address = name (codes "ADDR") (Package (low_half c.args.link ∷ Int 0 ∷ [])) in
    of_values c.device.result (codes "VGEN") c.push_address.new.values (id ∷ kind ∷ address ∷ [])
    (three_pushed c.new-values.result c.push_text.new.values c.push_text-2.new.values c.push_address.new.values [] id kind address
    c.new-values.ensures c.in_ok-push_text.ensures c.in_ok-push_text-2.ensures c.in_ok-push_address.ensures) c.device.ensures
