-- Laws. Each promise determines the reply: two replies that satisfy it are equal. Assumes nothing.
use Rattle.std.specs.Prelude.{ℕ, ◌≡◌}
use Rattle.std.proofs.Common.{sym, ◌∙◌}
use Rattle.block.specs.declared.Indices.{Indices}
use Rattle.block.specs.declared.Vertex.{Vertex}
use Rattle.joining.specs.Joining.{grown_of, joined_of}

pub unique-grown : (v o : Vertex) (d : ℕ) (r s : Vertex) → r ≡ grown_of v d o → s ≡ grown_of v d o → r ≡ s
unique-grown v o d r s p q = p ∙ sym q

pub unique-joined : (x y : Indices) (c o : Vertex) (r s : Indices) → r ≡ joined_of x y c o → s ≡ joined_of x y c o → r ≡ s
unique-joined x y c o r s p q = p ∙ sym q
