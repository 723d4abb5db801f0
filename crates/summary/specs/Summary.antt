-- Definitions. The bytes of a block's summary.
use Rattle.std.specs.Prelude.{ℕ, zero, suc, List, [], ◌∷◌, ◌++◌}
use Rattle.graph.specs.Graph.{Graph, bonded}
use Rattle.block.specs.Index.{indices_of}
use Rattle.block.specs.Opened.{set_of}
use Rattle.block.specs.declared.Indices.{Indices}
use Rattle.records.specs.Bytes.{little_bytes}

-- the sixteen bytes that it opens with
unfoldable pub head_of : ℕ → Indices → List ℕ
head_of x s = little_bytes 2 x ++ (s.atoms ∷ s.largest ∷ (little_bytes 4 s.even ++ (little_bytes 4 s.odd ++ little_bytes 4 s.polarity)))

-- the sets of the neighbours, from atom i on
unfoldable pub atoms_from : Graph → ℕ → ℕ → List ℕ
atoms_from g i zero = []
atoms_from g i (suc left) = little_bytes 8 (set_of g.atoms (bonded g i)) ++ atoms_from g (suc i) left

unfoldable pub summary_of : ℕ → Graph → List ℕ
summary_of x g = head_of x (indices_of g) ++ atoms_from g 1 g.atoms
