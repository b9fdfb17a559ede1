-- What is read behind an opcode that opens a level, with room for so many levels.
use Rattle.std.specs.Prelude.{ℕ, zero, suc}
use Rattle.aml_terms.specs.declared.term.Path.{Path}
use Rattle.aml_terms.specs.Trees.{Tree, Trees}
use Rattle.aml_terms.specs.Reading.{Reader, outside, enclosed_at, buffer_in, package_in, value_at, inside, term_at}

unfoldable pub buffer_at : ℕ → Reader Tree
buffer_at zero = outside 1
buffer_at (suc room) = enclosed_at buffer_in

unfoldable pub package_at : ℕ → Reader Tree
package_at zero = outside 1
package_at (suc room) = enclosed_at (package_in (value_at room))

-- the opcode has so many bytes
unfoldable pub inside_at : ℕ → ℕ → Reader (Path × Trees)
inside_at zero = outside
inside_at (suc room) = λ back. enclosed_at (inside (term_at room))
