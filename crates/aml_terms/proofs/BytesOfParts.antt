-- The bytes of parts that stand one after the other.
use Rattle.std.proofs.Common.{◌≡◌, List, [], ◌∷◌, ◌++◌, refl, sym, ap, ◌∙◌, append_assoc}
use Rattle.aml_terms.specs.Trees.{Tree, Trees, tree}
use Rattle.aml_terms.specs.Written.{Part, part_bytes, bytes_of, written, spelled, all_spelled, all_written}

-- of parts, and of others behind them
pub bytes_of-append : (parts others : List Part) → bytes_of (parts ++ others) ≡ bytes_of parts ++ bytes_of others
bytes_of-append [] others = refl
bytes_of-append (part ∷ parts) others =
    ap (λ bytes. part_bytes part ++ bytes) (bytes_of-append parts others)
    ∙ sym (append_assoc (part_bytes part) (bytes_of parts) (bytes_of others))

-- of a term, and of those behind it
pub all_spelled-tree : (t : Tree) (ts : Trees) → all_spelled (tree t ts) ≡ spelled t ++ all_spelled ts
unfolding written
all_spelled-tree t ts = bytes_of-append (written t) (all_written ts)
