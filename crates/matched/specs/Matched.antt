-- Definitions. Whether the molecule of a deck is a molecule that is listed atom by atom, by a matching that says for each atom where it stands in the deck.
use Rattle.std.specs.Prelude.{ℕ, zero, suc, ◌+◌, ◌*◌, ◌-◌, Bool, true, false, ◌||◌, not, cond, List, [], ◌∷◌, ◌++◌, eqb, ltb, length, get_or}
use Rattle.graph.specs.Graph.{Bond, bond, Graph, any_joins, bonded, any_atom}
use Rattle.graph.specs.Assembly.{atom_of}
use Rattle.reply.specs.Read.{Read, read, ◌then◌, refuse_if, if_else, is_outside}
use Rattle.block.specs.Block.{graph_of}
use Rattle.deck.specs.Deck.{Deck, deck_reply}
use Rattle.deck.specs.Molecule.{graph_at, molecule_of}
use Rattle.deck.specs.declared.Form.TheVariants.{Composed}
use Rattle.deck.specs.Placed.{is_missing}
use Rattle.matched.specs.declared.Match.{Match}
use Rattle.matched.specs.declared.Match.TheVariants.{Same, Differs}

-- the number that atom a of placement number p has in the whole molecule; 0 where there is no such atom
unfoldable pub placed_number : List ℕ → Deck → ℕ → ℕ → ℕ
placed_number d k p a = cond (is_missing d k p a) 0 (atom_of (graph_at d k) p a)

-- the partners of the first n atoms: a matching has two numbers for each atom, its placement and its atom there
unfoldable pub partners : List ℕ → Deck → List ℕ → ℕ → List ℕ
partners d k matching zero = []
partners d k matching (suc n) = partners d k matching n ++ (placed_number d k (get_or matching (2 * n) 0) (get_or matching (2 * n + 1) 0) ∷ [])

-- the partner of an atom, from 1, in such a list; 0 where there is none
unfoldable pub partner : List ℕ → ℕ → ℕ
partner to zero = 0
partner to (suc i) = get_or to i 0

-- an atom has no partner, or that of an earlier atom
unfoldable pub is_lost : List ℕ → ℕ → Bool
is_lost to v = eqb (partner to v) 0 || any_atom (v - 1) (λ u. eqb (partner to u) (partner to v))

-- a bond of g has an end that is no atom, or joins two atoms whose partners h does not bond
unfoldable pub is_loose : Graph → Graph → List ℕ → Bond → Bool
is_loose g h to b = is_outside g.atoms b.one || (is_outside g.atoms b.two || not (bonded h (partner to b.one) (partner to b.two)))

-- bonds with the partners of their ends
unfoldable pub carried : List ℕ → List Bond → List Bond
carried to [] = []
carried to (b ∷ bs) = bond (partner to b.one) (partner to b.two) ∷ carried to bs

-- a bond of h joins the partners of no bond of g
unfoldable pub is_unlisted : Graph → List ℕ → Bond → Bool
is_unlisted g to b = not (any_joins (carried to g.bonds) b.one b.two)

-- the first of n atoms from v on that passes; 0 where none does
unfoldable pub first_atom : ℕ → ℕ → (ℕ → Bool) → ℕ
first_atom zero v p = 0
first_atom (suc n) v p = elim (p v) [ true ↦ v | false ↦ first_atom n (suc v) p ]

-- the place of the first bond that passes, where the first of the list has the place given; 0 where none does
unfoldable pub first_bond : ℕ → (Bond → Bool) → List Bond → ℕ
first_bond place p [] = 0
first_bond place p (b ∷ bs) = elim (p b) [ true ↦ place | false ↦ first_bond (suc place) p bs ]

-- the first place, or the second where that is 0
infixr 20 ◌or_else◌
abbrev pub ◌or_else◌ : ℕ → (Unit {0} → ℕ) → ℕ
zero or_else f = f tt
suc n or_else f = suc n

-- The first place where g and h differ, by the partners of g's atoms: 1 to n for an atom of g, n + e for its bond e, n + m + e for bond e of h; 0 where they do not.
unfoldable pub match_place : Graph → Graph → List ℕ → ℕ
match_place g h to =
    first_atom g.atoms 1 (is_lost to) or_else λ _.
    first_bond (g.atoms + 1) (is_loose g h to) g.bonds or_else λ _.
    first_bond (g.atoms + length g.bonds + 1) (is_unlisted g to) h.bonds

abbrev pub answer_at : ℕ → Match
answer_at zero = Same
answer_at (suc p) = Differs (suc p)

-- place 0 where they have not as many atoms
unfoldable pub match_answer : Graph → Graph → List ℕ → Match
match_answer g h to = if_else (eqb g.atoms h.atoms) (λ _. answer_at (match_place g h to)) (λ _. Differs 0)

-- The deck's refusals, without a sheet; then 9 where the matching has fewer than two numbers an atom. An odd last number of the bonds is no bond.
unfoldable pub match_reply : List ℕ → ℕ → List ℕ → List ℕ → Read Match
match_reply d atoms bonds matching =
    deck_reply Composed d then λ k.
    refuse_if (ltb (length matching) (2 * atoms)) 9 0 then λ _.
    read (match_answer (graph_of atoms bonds) (molecule_of d k) (partners d k matching atoms))
