-- Laws. What a yes says of atoms and of bonds: every atom has a partner of its own, and every bond of either molecule its partner in the other. Assumes nothing.
use Rattle.std.specs.Prelude.{ℕ, zero, suc, ◌+◌, ◌*◌, ◌≤◌, ◌<◌, Bool, true, false, cond, List, [], ◌∷◌, ◌++◌, ◌≡◌, refl, eqb, ltb, length, get_or}
use Rattle.std.proofs.Common.{inl, inr, ⊎_elim, sym, ◌∙◌, ap, arith, eqb-true, ltb-true, ltb-false}
use Rattle.std.proofs.Math.ListN.{get_or-append}
use Rattle.std.proofs.lemmas.List.{get_or_at}
use Rattle.graph.specs.Graph.{Bond, bond, Graph, Within, any_joins}
use Rattle.graph.specs.Assembly.{atom_of}
use Rattle.graph.specs.Bonds.{Joins, any_out, any_none, any_head, any_tail}
use Rattle.graph.specs.Climb.{placed_within}
use Rattle.reply.specs.Read.{read, refuse_if, if_else}
use Rattle.reply.specs.Chain.{then-read}
use Rattle.block.specs.Block.{graph_of}
use Rattle.deck.specs.Deck.{Deck, deck_reply}
use Rattle.deck.specs.Molecule.{graph_at, join_at, molecule_of}
use Rattle.deck.specs.declared.Form.TheVariants.{Composed}
use Rattle.deck.specs.Placed.{is_missing}
use Rattle.deck.specs.Present.{present}
use Rattle.matched.specs.Matched.{placed_number, partners, partner, is_lost, is_loose, carried, is_unlisted, first_atom, first_bond, ◌or_else◌, match_place, answer_at, match_answer, match_reply}
use Rattle.matched.specs.declared.Match.TheVariants.{Same, Differs}
use Rattle.matched.specs.Laws.{partners-length, first_yes, first_no}

-- the deck that a yes speaks of
pub yes-read : (d : List ℕ) (n : ℕ) (bonds m : List ℕ) → match_reply d n bonds m ≡ read Same
    → (k : Deck) × (deck_reply Composed d ≡ read k) × (match_answer (graph_of n bonds) (molecule_of d k) (partners d k m n) ≡ Same)
unfolding match_reply
yes-read d n bonds m e =
    let (k, a, f) = then-read (deck_reply Composed d) _ e in
    let (u, b, h) = then-read (refuse_if (ltb (length m) (2 * n)) 9 0) (λ _. read (match_answer (graph_of n bonds) (molecule_of d k) (partners d k m n))) f in
    (k, a, cc)

place_none : (p : ℕ) → answer_at p ≡ Same → p ≡ 0
place_none zero e = refl
place_none (suc p) e = let z : ◌≡◌ {A = ℕ} 0 1 = cc in absurd (omega arith)

pub answer_yes : (g h : Graph) (to : List ℕ) → match_answer g h to ≡ Same → (g.atoms ≡ h.atoms) × (match_place g h to ≡ 0)
unfolding match_answer
answer_yes g h to e = go (eqb g.atoms h.atoms) refl e
  where
    go : (t : Bool) → eqb g.atoms h.atoms ≡ t → if_else t (λ _. answer_at (match_place g h to)) (λ _. Differs 0) ≡ Same → (g.atoms ≡ h.atoms) × (match_place g h to ≡ 0)
    go true t f = (eqb-true g.atoms h.atoms t, place_none (match_place g h to) f)
    go false t f = let z : ◌≡◌ {A = ℕ} 0 1 = cc in absurd (omega arith)

or_none : (a : ℕ) (f : Unit {0} → ℕ) → (a or_else f) ≡ 0 → (a ≡ 0) × (f tt ≡ 0)
or_none zero f e = (refl, e)
or_none (suc a) f e = absurd (omega (arith, e))

pub places_none : (g h : Graph) (to : List ℕ) → match_place g h to ≡ 0
    → (first_atom g.atoms 1 (is_lost to) ≡ 0) × (first_bond (g.atoms + 1) (is_loose g h to) g.bonds ≡ 0) × (first_bond (g.atoms + length g.bonds + 1) (is_unlisted g to) h.bonds ≡ 0)
unfolding match_place
places_none g h to e =
    let a = or_none (first_atom g.atoms 1 (is_lost to)) _ e in
    let b = or_none (first_bond (g.atoms + 1) (is_loose g h to) g.bonds) _ a.1 in
    (a.0, b.0, b.1)

-- no atom passes where the search says so
atom_yes : (n v : ℕ) (p : ℕ → Bool) → p v ≡ true → first_atom (suc n) v p ≡ v
unfolding first_atom
atom_yes n v p t = rw (t, first_atom)

pub atom_no : (n v : ℕ) (p : ℕ → Bool) → p v ≡ false → first_atom (suc n) v p ≡ first_atom n (suc v) p
unfolding first_atom
atom_no n v p t = rw (t, first_atom)

pub none_passes : (n v : ℕ) (p : ℕ → Bool) → 1 ≤ v → first_atom n v p ≡ 0 → (u : ℕ) → v ≤ u → u < v + n → p u ≡ false
none_passes zero v p l e u a b = absurd (omega arith)
none_passes (suc n) v p l e u a b = go (p v) refl (λ f q. none_passes n (suc v) p (omega arith) f u q (omega arith))
  where
    here : p v ≡ false → (first_atom n (suc v) p ≡ 0 → suc v ≤ u → p u ≡ false) → (s : Bool) → ltb v u ≡ s → p u ≡ false
    here t more true s = more (sym (atom_no n v p t) ∙ e) (omega (arith, ltb-true v u s))
    here t more false s = let q : u ≡ v = omega (arith, ltb-false v u s) in ap p q ∙ t

    go : (t : Bool) → p v ≡ t → (first_atom n (suc v) p ≡ 0 → suc v ≤ u → p u ≡ false) → p u ≡ false
    go true t more = absurd (omega (arith, sym (atom_yes n v p t) ∙ e))
    go false t more = here t more (ltb v u) refl

-- a bond of a list in which none passes
pub passing : (p : Bond → Bool) (bs : List Bond) (place : ℕ) → 1 ≤ place → first_bond place p bs ≡ 0 → (u v : ℕ) → any_joins bs u v ≡ true → (b : Bond) × (p b ≡ false) × Joins b u v
passing p [] place l e u v j = absurd (any_none u v j)
passing p (b ∷ bs) place l e u v j = go (p b) refl (λ f. passing p bs (suc place) (omega arith) f u v)
  where
    go : (t : Bool) → p b ≡ t → (first_bond (suc place) p bs ≡ 0 → any_joins bs u v ≡ true → (b : Bond) × (p b ≡ false) × Joins b u v) → (b : Bond) × (p b ≡ false) × Joins b u v
    go true t more = absurd (omega (arith, sym (first_yes place p b bs t) ∙ e))
    go false t more = ⊎_elim (λ s. (b, t, s)) (λ s. more (sym (first_no place p b bs t) ∙ e) s) (any_out b bs u v j)

-- a bond that joins two atoms by the partners of its ends
pub uncarried : (to : List ℕ) (bs : List Bond) (x y : ℕ) → any_joins (carried to bs) x y ≡ true → (u v : ℕ) × (any_joins bs u v ≡ true) × (partner to u ≡ x) × (partner to v ≡ y)
unfolding carried
uncarried to [] x y j = absurd (any_none x y j)
uncarried to (b ∷ bs) x y j =
    ⊎_elim
    (⊎_elim (λ r. (b.one, b.two, any_head b bs b.one b.two (inl (refl, refl)), r.0, r.1))
    (λ r. (b.two, b.one, any_head b bs b.two b.one (inr (refl, refl)), r.1, r.0)))
    (λ s. let r = uncarried to bs x y s in (r.0, r.1, any_tail b bs r.0 r.1 r.2, r.3, r.4))
    (any_out (bond (partner to b.one) (partner to b.two)) (carried to bs) x y j)

-- a partner is an atom of the deck's molecule
pub number_within : (d : List ℕ) (k : Deck) (p a : ℕ) → (placed_number d k p a ≡ 0 → ⊥) → Within (molecule_of d k).atoms (placed_number d k p a)
unfolding placed_number molecule_of
number_within d k p a = go (is_missing d k p a) refl
  where
    go : (t : Bool) → is_missing d k p a ≡ t → (cond t 0 (atom_of (graph_at d k) p a) ≡ 0 → ⊥) → Within (molecule_of d k).atoms (cond t 0 (atom_of (graph_at d k) p a))
    go true t n = absurd (n refl)
    go false t n = placed_within (graph_at d k) (join_at d k) (present d k p a t)

partners_at : (d : List ℕ) (k : Deck) (m : List ℕ) (n i : ℕ) → i < n → get_or (partners d k m n) i 0 ≡ placed_number d k (get_or m (2 * i) 0) (get_or m (2 * i + 1) 0)
unfolding partners
partners_at d k m zero i h = absurd (omega arith)
partners_at d k m (suc n) i h = go (ltb i n) refl (partners_at d k m n i)
  where
    x : ℕ
    x = placed_number d k (get_or m (2 * n) 0) (get_or m (2 * n + 1) 0)

    go : (t : Bool) → ltb i n ≡ t → (i < n → get_or (partners d k m n) i 0 ≡ placed_number d k (get_or m (2 * i) 0) (get_or m (2 * i + 1) 0))
        → get_or (partners d k m n ++ (placed_number d k (get_or m (2 * n) 0) (get_or m (2 * n + 1) 0) ∷ [])) i 0 ≡ placed_number d k (get_or m (2 * i) 0) (get_or m (2 * i + 1) 0)
    go true t more = let l = ltb-true i n t in get_or-append (partners d k m n) _ 0 i (omega (arith, l, partners-length d k m n)) ∙ more l
    go false t more =
        let e : n ≡ i = omega (arith, ltb-false i n t) in
        ap (λ (j : ℕ). get_or (partners d k m n ++ (placed_number d k (get_or m (2 * n) 0) (get_or m (2 * n + 1) 0) ∷ [])) j 0) (sym e)
        ∙ get_or_at (partners d k m n) (placed_number d k (get_or m (2 * n) 0) (get_or m (2 * n + 1) 0)) [] 0 n (partners-length d k m n)
        ∙ ap (λ (j : ℕ). placed_number d k (get_or m (2 * j) 0) (get_or m (2 * j + 1) 0)) e

pub partner_within : (d : List ℕ) (k : Deck) (m : List ℕ) (n v : ℕ) → Within n v → (partner (partners d k m n) v ≡ 0 → ⊥) → Within (molecule_of d k).atoms (partner (partners d k m n) v)
unfolding partner
partner_within d k m n zero w h = absurd (omega (arith, w))
partner_within d k m n (suc i) w h =
    let e = partners_at d k m n i (omega (arith, w.high)) in
    rw e (number_within d k (get_or m (2 * i) 0) (get_or m (2 * i + 1) 0) (λ z. h (e ∙ z)))
