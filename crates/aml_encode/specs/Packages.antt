-- Packages in bytes: an opcode, a length, and what the length encloses (ACPI 6.5, 20.2.4 and 20.2.5).
use Rattle.std.specs.Prelude.{ℕ, List, ◌∷◌, ◌++◌, length}
use Rattle.aml_terms.specs.declared.term.Path.{Path}
use Rattle.aml_terms.specs.Trees.{Trees, count_of}
use Rattle.aml_terms.specs.Written.{integer, package_length, path_bytes, all_spelled}

-- an opcode, the length of what is enclosed, and that
abbrev pub package_of : List ℕ → List ℕ → List ℕ
package_of opcode body = opcode ++ package_length (length body) ++ body

-- what a buffer encloses: its size and its bytes
abbrev pub buffer_body : List ℕ → List ℕ
buffer_body content = integer (length content) ++ content

-- what a package encloses: the number of its values, and the values
abbrev pub values_body : Trees → List ℕ
values_body values = count_of values ∷ all_spelled values

-- what a scope or a device encloses: its path and its terms
abbrev pub terms_body : Path → Trees → List ℕ
terms_body path terms = path_bytes path ++ all_spelled terms
