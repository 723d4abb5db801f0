-- Laws. The other way: where the partners of a matching are a renumbering, and bonds of the list end at its atoms, the answer is yes. Assumes nothing.
use Rattle.std.specs.Prelude.{ℕ, zero, suc, ◌+◌, ◌*◌, ◌-◌, ◌≤◌, ◌<◌, Bool, List, [], ◌∷◌, ◌≡◌, refl}
use Rattle.std.proofs.Math.Bool.{true, false, not}
use Rattle.std.proofs.Common.{inl, inr, ⊎_elim, ◌∙◌, arith}
use Rattle.std.proofs.Math.Path.{sym, ap, ap₂}
use borrow.Author.Tests.{eq-eqb, ne_eqb, le-ltb}
use Rattle.std.proofs.Math.Dec.{eqb}
use Rattle.std.proofs.Math.ListN.{length}
use Rattle.graph.specs.Graph.{Bond, bond, Graph, Within, Sound, Molecule, any_joins, bonded, any_atom}
use Rattle.graph.specs.Bonds.{any_out, any_none, any_head, any_tail, bonded_sym}
use Rattle.graph.specs.Sums.{wider, last}
use Rattle.reply.specs.Read.{read, is_outside}
use Rattle.block.specs.Block.{graph_of}
use Rattle.deck.specs.Deck.{Deck, deck_reply}
use Rattle.deck.specs.Molecule.{molecule_of}
use Rattle.deck.specs.Sized.{one_molecule}
use Rattle.deck.specs.declared.Form.TheVariants.{Composed}
use Rattle.graph.proofs.MatchedLaws.{same_size}
use Rattle.renumbered.specs.Renumbered.{Renumbered}
use Rattle.matched.specs.Matched.{partners, partner, is_lost, is_loose, carried, is_unlisted, first_atom, first_bond, match_place, match_answer, match_reply}
use Rattle.matched.specs.declared.Match.TheVariants.{Same}
use Rattle.matched.specs.Laws.{first_no}
use Rattle.same_molecule.specs.Yes.{atom_no}

-- searches that find nothing
none_found : (n v : ℕ) (p : ℕ → Bool) → ((u : ℕ) → v ≤ u → u < v + n → p u ≡ false) → first_atom n v p ≡ 0
unfolding first_atom
none_found zero v p h = refl
none_found (suc n) v p h = atom_no n v p (h v (omega arith) (omega arith)) ∙ none_found n (suc v) p (λ u a b. h u (omega arith) (omega arith))

none_listed : (p : Bond → Bool) (bs : List Bond) (place : ℕ) → ((b : Bond) → any_joins bs b.one b.two ≡ true → p b ≡ false) → first_bond place p bs ≡ 0
unfolding first_bond
none_listed p [] place h = refl
none_listed p (b ∷ bs) place h =
    first_no place p b bs (h b (any_head b bs b.one b.two (inl (refl, refl)))) ∙ none_listed p bs (suc place) (λ c j. h c (any_tail b bs c.one c.two j))

no_atom : (n : ℕ) (p : ℕ → Bool) → ((u : ℕ) → Within n u → p u ≡ false) → any_atom n p ≡ false
unfolding any_atom
no_atom zero p h = refl
no_atom (suc n) p h = rw (h (suc n) (last n)) (no_atom n p (λ u w. h u (wider w)))

carried_in : (to : List ℕ) (bs : List Bond) (u v : ℕ) → any_joins bs u v ≡ true → any_joins (carried to bs) (partner to u) (partner to v) ≡ true
unfolding carried
carried_in to [] u v j = absurd (any_none u v j)
carried_in to (b ∷ bs) u v j =
    ⊎_elim
    (λ s. any_head (bond (partner to b.one) (partner to b.two)) (carried to bs) (partner to u) (partner to v)
    (⊎_elim (λ r. inl (ap (partner to) r.0, ap (partner to) r.1)) (λ r. inr (ap (partner to) r.0, ap (partner to) r.1)) s))
    (λ s. any_tail (bond (partner to b.one) (partner to b.two)) (carried to bs) (partner to u) (partner to v) (carried_in to bs u v s))
    (any_out b bs u v j)

not_outside : {n v : ℕ} → Within n v → is_outside n v ≡ false
not_outside {n} {v} w = rw (ne_eqb v 0 (λ z. omega (arith, w.low, z)), le-ltb n v w.high)

module _ (g h : Graph) (to : List ℕ) (s : Sound g) (m : Molecule h) (r : Renumbered g h) (same : (v : ℕ) → Within g.atoms v → r.numbers.to v ≡ partner to v) where
  there : (v : ℕ) → Within g.atoms v → Within h.atoms (partner to v)
  there v w = rw (← same v w) (r.numbers.there v w)

  kept : (v : ℕ) → Within g.atoms v → is_lost to v ≡ false
  unfolding is_lost
  kept v w =
      let p = r.numbers in
      let a : eqb (partner to v) 0 ≡ false = ne_eqb (partner to v) 0 (λ z. omega (arith, (there v w).low, z)) in
      let b : any_atom (v - 1) (λ u. eqb (partner to u) (partner to v)) ≡ false
      = no_atom (v - 1) (λ u. eqb (partner to u) (partner to v)) (λ u x.
      let y : Within g.atoms u = omega (arith, x, w) in
      ne_eqb (partner to u) (partner to v) (λ e.
      let q : u ≡ v = sym (p.home u y) ∙ ap p.back (same u y ∙ e ∙ sym (same v w)) ∙ p.home v w in
      omega (arith, x, w, q))) in
      rw (a, b)

  fast : (b : Bond) → bonded g b.one b.two ≡ true → is_loose g h to b ≡ false
  unfolding is_loose
  fast b j =
      let x = s.ends b.one b.two j in
      let y = s.ends b.two b.one (bonded_sym g b.one b.two j) in
      let k : bonded h (partner to b.one) (partner to b.two) ≡ true = ap₂ (bonded h) (sym (same b.one x)) (sym (same b.two y)) ∙ r.carried b.one b.two j in
      rw (not_outside x, not_outside y, k)

  listed : (b : Bond) → bonded h b.one b.two ≡ true → is_unlisted g to b ≡ false
  unfolding is_unlisted bonded
  listed b j =
      let p = r.numbers in
      let x = m.sound.ends b.one b.two j in
      let y = m.sound.ends b.two b.one (bonded_sym h b.one b.two j) in
      let e : partner to (p.back b.one) ≡ b.one = sym (same (p.back b.one) (p.here b.one x)) ∙ p.away b.one x in
      let f : partner to (p.back b.two) ≡ b.two = sym (same (p.back b.two) (p.here b.two y)) ∙ p.away b.two y in
      let k = carried_in to g.bonds (p.back b.one) (p.back b.two) (r.brought b.one b.two j) in
      ap not (ap₂ (any_joins (carried to g.bonds)) (sym e) (sym f) ∙ k)

  pub yes_where : match_answer g h to ≡ Same
  unfolding match_answer match_place bonded
  yes_where =
      rw (
        eq-eqb g.atoms h.atoms (same_size r.numbers),
        none_found g.atoms 1 (is_lost to) (λ u a b. kept u (record { low = a; high = omega (arith, b) })),
        none_listed (is_loose g h to) g.bonds (g.atoms + 1) fast,
        none_listed (is_unlisted g to) h.bonds (g.atoms + length g.bonds + 1) listed,
      )

-- THE CONVERSE
pub renumbered_matched : (d : List ℕ) (atoms : ℕ) (bonds matching : List ℕ) (k : Deck) → deck_reply Composed d ≡ read k → 2 * atoms ≤ length matching → Sound (graph_of atoms bonds)
    → (r : Renumbered (graph_of atoms bonds) (molecule_of d k)) → ((v : ℕ) → Within atoms v → r.numbers.to v ≡ partner (partners d k matching atoms) v)
    → match_reply d atoms bonds matching ≡ read Same
unfolding match_reply
renumbered_matched d atoms bonds matching k e l s r same =
    rw (e, le-ltb (length matching) (2 * atoms) l) (ap read (yes_where (graph_of atoms bonds) (molecule_of d k) (partners d k matching atoms) s (one_molecule Composed d k e) r same))
