-- Laws. AFTER A YES the deck's molecule and the listed one differ only in the numbering of their atoms: so the deck's sheet has the fields of the listed molecule, and a
-- claimed sheet behind the deck is accepted exactly where it claims those. Assumes nothing.
use Rattle.std.specs.Prelude.{ℕ, zero, suc, ◌+◌, ◌-◌, ◌≤◌, ◌<◌, Bool, true, false, ◌||◌, List, ◌++◌, ◌↔◌, ◌≡◌, refl, Ok}
use Rattle.std.proofs.Math.Bool.{not}
use Rattle.std.proofs.lemmas.Bool.{false≢true}
use Rattle.std.proofs.Math.Logic.{⊎_elim}
use Rattle.std.proofs.Common.{sym, ◌∙◌, subst₂, arith}
use Rattle.std.proofs.Math.Path.{ap, ap₂, subst}
use Rattle.std.proofs.Math.Nat.{le-suc_iff}
use borrow.Author.Tests.{eqb-false, eq-eqb, not-false}
use Rattle.std.proofs.Math.Dec.{eqb}
use Rattle.std.proofs.Math.ListN.{length}
use Rattle.graph.specs.Graph.{Bond, Graph, Walk, Within, Molecule, bonded, any_atom}
use Rattle.graph.specs.Bonds.{first_of, second_of, bonded_sym}
use Rattle.reply.specs.Read.{Read, refused, read, is_outside, as_result}
use Rattle.reply.specs.Chain.{neither}
use Rattle.block.specs.Block.{graph_of}
use Rattle.block.specs.Faults.{inside}
use Rattle.block.specs.Index.{indices_of}
use Rattle.records.specs.Records.{head_bytes}
use Rattle.records.specs.declared.Sheet.{Sheet}
use Rattle.deck.specs.Deck.{longest_deck, Deck, deck_reply}
use Rattle.deck.specs.Molecule.{molecule_of}
use Rattle.deck.specs.Sized.{one_molecule}
use Rattle.deck.specs.Followed.{IsSheet}
use Rattle.deck.specs.declared.Form.TheVariants.{Composed}
use Rattle.sheets.specs.Sheets.{fields_of, widths, fields_at, sheet_of}
use Rattle.judging.specs.Judging.{judge_reply, said_verdict}
use Rattle.judging.specs.declared.Verdict.TheVariants.{Accepted}
use Rattle.renumbered.specs.Renumbered.{Renumbered}
use Rattle.renumbered.proofs.Distances.{reversed, walk_to, same_indices}
use Rattle.renumbered.proofs.DecksLaws.{behind_exactly}
use Rattle.matched.specs.Matched.{partners, partner, is_lost, is_loose, is_unlisted, first_atom, first_bond, match_reply}
use Rattle.matched.specs.declared.Match.{Match}
use Rattle.matched.specs.declared.Match.TheVariants as told
use Rattle.same_molecule.specs.Paired.{back_in, paired}
use Rattle.same_molecule.specs.Yes.{yes-read, answer_yes, places_none, none_passes, passing, uncarried, partner_within}

-- one of the first atoms passes
any_in : (n : ℕ) (p : ℕ → Bool) (u : ℕ) → Within n u → p u ≡ true → any_atom n p ≡ true
unfolding any_atom
any_in zero p u w e = absurd (omega (arith, w))
any_in (suc n) p u w e =
    ⊎_elim (λ q. second_of (p (suc n)) (any_atom n p) (any_in n p u (record { low = w.low; high = q }) e)) (λ q. first_of (p (suc n)) (any_atom n p) (sym (ap p q) ∙ e)) (le-suc_iff.0 w.high)

-- what a reply of the code says of the definition
said_yes : (R : Read Match) → as_result R ≡ Ok told.Same → R ≡ read told.Same
said_yes (refused r) e = let z : ◌≡◌ {A = ℕ} 0 1 = cc in absurd (omega arith)
said_yes (read told.Same) e = refl
said_yes (read (told.Differs p)) e = let z : ◌≡◌ {A = ℕ} 0 1 = cc in absurd (omega arith)

-- what is matched atom by atom, with nothing left over
module _ (g h : Graph) (to : List ℕ) (size : g.atoms ≡ h.atoms)
    (atoms : first_atom g.atoms 1 (is_lost to) ≡ 0)
    (within : (v : ℕ) → Within g.atoms v → (partner to v ≡ 0 → ⊥) → Within h.atoms (partner to v))
    (here : first_bond (g.atoms + 1) (is_loose g h to) g.bonds ≡ 0)
    (there : first_bond (g.atoms + length g.bonds + 1) (is_unlisted g to) h.bonds ≡ 0) where
  abbrev n : ℕ
  n = g.atoms

  kept : (v : ℕ) → Within n v → is_lost to v ≡ false
  kept v w = none_passes n 1 (is_lost to) (omega arith) atoms v w.low (omega (arith, w.high))

  has : (v : ℕ) → Within n v → (partner to v ≡ 0 → ⊥) × (any_atom (v - 1) (λ u. eqb (partner to u) (partner to v)) ≡ false)
  unfolding is_lost
  has v w = let r = neither (eqb (partner to v) 0) (any_atom (v - 1) (λ u. eqb (partner to u) (partner to v))) (kept v w) in (eqb-false (partner to v) 0 r.0, r.1)

  own : (u v : ℕ) → Within n u → Within n v → u < v → partner to u ≡ partner to v → ⊥
  own u v a b l e =
      false≢true (sym (has v b).1 ∙ any_in (v - 1) (λ u. eqb (partner to u) (partner to v)) u (record { low = a.low; high = omega arith }) (eq-eqb (partner to u) (partner to v) e))

  placed : (v : ℕ) → Within n v → Within n (partner to v)
  placed v w = subst (λ (m : ℕ). Within m (partner to v)) (sym size) (within v w (has v w).0)

  -- a bond of the list: its ends are atoms, and their partners are bonded
  fast : (b : Bond) → is_loose g h to b ≡ false → Within n b.one × Within n b.two × (bonded h (partner to b.one) (partner to b.two) ≡ true)
  unfolding is_loose
  fast b e =
      let r = neither (is_outside n b.one) (is_outside n b.two || not (bonded h (partner to b.one) (partner to b.two))) e in
      let s = neither (is_outside n b.two) (not (bonded h (partner to b.one) (partner to b.two))) r.1 in
      (inside n b.one r.0, inside n b.two s.0, not-false (bonded h (partner to b.one) (partner to b.two)) s.1)

  over : (u v : ℕ) → bonded g u v ≡ true → Within n u × Within n v × (bonded h (partner to u) (partner to v) ≡ true)
  unfolding bonded
  over u v e =
      let (b, t, j) = passing (is_loose g h to) g.bonds (n + 1) (omega arith) here u v e in
      let f = fast b t in
      ⊎_elim
      (λ r. (
        subst (Within n) r.0 f.0,
        subst (Within n) r.1 f.1,
        ap₂ (λ (x y : ℕ). bonded h (partner to x) (partner to y)) (sym r.0) (sym r.1) ∙ f.2,
      ))
      (λ r. (
        subst (Within n) r.1 f.1,
        subst (Within n) r.0 f.0,
        bonded_sym h (partner to v) (partner to u) (ap₂ (λ (x y : ℕ). bonded h (partner to x) (partner to y)) (sym r.0) (sym r.1) ∙ f.2),
      ))
      j

  abbrev back : ℕ → ℕ
  back = back_in (partner to) n

  led : (v : ℕ) → Within n v → back (partner to v) ≡ v
  led v w = (paired n (partner to) placed own).home v w

  -- a bond of the deck's molecule has its partner in the list
  under_bond : (b : Bond) → is_unlisted g to b ≡ false → bonded g (back b.one) (back b.two) ≡ true
  unfolding is_unlisted
  under_bond b e =
      let (u, v, j, p, q) = uncarried to g.bonds b.one b.two (not-false _ e) in
      let o = over u v (unfold bonded in j) in
      ap₂ (bonded g) (ap back (sym p) ∙ led u o.0) (ap back (sym q) ∙ led v o.1) ∙ (unfold bonded in j)

  under : (u v : ℕ) → bonded h u v ≡ true → bonded g (back u) (back v) ≡ true
  unfolding bonded
  under u v e =
      let (b, t, j) = passing (is_unlisted g to) h.bonds (n + length g.bonds + 1) (omega arith) there u v e in
      let f = under_bond b t in
      ⊎_elim (λ r. ap₂ (λ (x y : ℕ). bonded g (back x) (back y)) (sym r.0) (sym r.1) ∙ f)
      (λ r. bonded_sym g (back v) (back u) (ap₂ (λ (x y : ℕ). bonded g (back x) (back y)) (sym r.0) (sym r.1) ∙ f))
      j

  renumbering : Renumbered g (record { atoms = n; bonds = h.bonds })
  unfolding bonded
  renumbering = record { numbers = paired n (partner to) placed own; carried = λ u v e. (over u v e).2; brought = under }

  pub renumbered : Renumbered g h
  renumbered = subst (λ (m : ℕ). Renumbered g (record { atoms = m; bonds = h.bonds })) size renumbering

  -- so the list is a molecule where the other is
  pub molecule : Molecule h → Molecule g
  molecule m = record { sound = record { ends = λ v w e. (over v w e).0 }; linked = linked }
    where
      r : Renumbered g h
      r = renumbered

      linked : (i j : ℕ) → Within g.atoms i → Within g.atoms j → (k : ℕ) × Walk g i j k
      linked i j a b =
          let (k, w) = m.linked (r.numbers.to i) (r.numbers.to j) (r.numbers.there i a) (r.numbers.there j b) in
          (k, subst₂ (λ (u v : ℕ). Walk g u v k) (r.numbers.home i a) (r.numbers.home j b) (walk_to (reversed r) w))

-- what a yes is worth
pub record Same (d : List ℕ) (atoms : ℕ) (bonds : List ℕ) : Type 0 where
  pub deck : Deck
  pub reads : deck_reply Composed d ≡ read deck
  pub renumbered : Renumbered (graph_of atoms bonds) (molecule_of d deck)
  pub molecule : Molecule (graph_of atoms bonds)

-- THE THEOREM
pub matched_renumbered : (d : List ℕ) (atoms : ℕ) (bonds matching : List ℕ) → match_reply d atoms bonds matching ≡ read told.Same → Same d atoms bonds
matched_renumbered d atoms bonds matching e =
    let (k, a, f) = yes-read d atoms bonds matching e in
    let g = graph_of atoms bonds in
    let h = molecule_of d k in
    let to = partners d k matching atoms in
    let p = answer_yes g h to f in
    let q = places_none g h to p.1 in
    let w = partner_within d k matching atoms in
    record {
      deck = k;
      reads = a;
      renumbered = renumbered g h to p.0 q.0 w q.1 q.2;
      molecule = molecule g h to p.0 q.0 w q.1 q.2 (one_molecule Composed d k a);
    }

-- the same of the code's reply
pub matched_told : (d : List ℕ) (atoms : ℕ) (bonds matching : List ℕ) → as_result (match_reply d atoms bonds matching) ≡ Ok told.Same → Same d atoms bonds
matched_told d atoms bonds matching e = matched_renumbered d atoms bonds matching (said_yes (match_reply d atoms bonds matching) e)

module _ {d : List ℕ} {atoms : ℕ} {bonds : List ℕ} (s : Same d atoms bonds) where
  -- THE FIELDS of the two are the same, and so are their sheets of either kind
  pub matched_fields : indices_of (graph_of atoms bonds) ≡ indices_of (molecule_of d s.deck)
  matched_fields = same_indices s.molecule (one_molecule Composed d s.deck s.reads) s.renumbered

  pub matched_sheet : (kind : Sheet) → sheet_of kind (graph_of atoms bonds) ≡ sheet_of kind (molecule_of d s.deck)
  unfolding sheet_of
  matched_sheet kind = ap (fields_of kind) matched_fields

  -- A CLAIM ON THE DECK IS A CLAIM ON THE LIST: a sheet behind the deck is accepted exactly where its fields are those of the listed molecule
  pub claimed_exactly : {kind : Sheet} (sheet : List ℕ) → IsSheet kind sheet → length d + length sheet ≤ longest_deck
      → (said_verdict (judge_reply (d ++ sheet)) ≡ Accepted) ↔ (fields_at (widths kind) sheet head_bytes ≡ sheet_of kind (graph_of atoms bonds))
  claimed_exactly {kind} sheet i l =
      let b = behind_exactly d s.deck s.reads sheet i l in
      (λ p. b.0 p ∙ sym (matched_sheet kind), λ q. b.1 (q ∙ matched_sheet kind))
