-- Laws. Composing by what is kept gives the fields of the table of all placements. Assumes nothing.
use Prim.Native.Nat.{ℕ, zero, suc, ◌+◌, ◌-◌, ◌≤◌}
use Rattle.std.proofs.Math.Logic.{⊎_elim}
use Rattle.std.specs.Prelude.{◌≡◌}
use Rattle.std.proofs.Math.Path.{refl, ap}
use Rattle.std.proofs.Common.{sym, ◌∙◌, subst, eq-eqb, ne_eqb}
use Rattle.std.proofs.Math.Nat.{le-suc_iff, le_of_eq, zero-add}
use native.Mathlib.Omega.{arith}
use Rattle.graph.specs.Graph.{Within, is_at}
use Rattle.graph.specs.Assembly.{Join}
use Rattle.joining.specs.Parts.{Part, grow, far_in, sight_in, six_in}
use Rattle.joining.specs.Table.{Table, seen_by, six_of, sight_of, joined_by, start_by, site_by, written_by, Told, Fits}
use Rattle.joining.specs.Rules.{far_first, far_cross, far_back, far_second}
use Rattle.joining.specs.Grow.{sight_first, sight_second, alone_first, alone_second, six_joined}

-- either the last of 0 to m + 1, or one before
last_or : (k m : ℕ) {G : Type 0} → k ≤ suc m → (k ≡ suc m → G) → (k ≤ m → G) → G
last_or k m h f g = ⊎_elim g f (le-suc_iff.0 h)

module _ (parts : ℕ → Part) (joins : ℕ → Join) (m : ℕ) where
  -- the four ways of a number, and the two of what is counted
  pub far_old : (k i l j : ℕ) → k ≤ m → l ≤ m → far_in parts joins (suc m) k i l j ≡ far_in parts joins m k i l j
  unfolding far_in
  far_old k i l j p q = rw (ne_eqb k (suc m) (λ e. omega arith), far_in) (rw (ne_eqb l (suc m) (λ e. omega arith)))

  pub far_on : (k i l j : ℕ) → k ≤ m → l ≡ suc m
      → far_in parts joins (suc m) k i l j ≡ far_in parts joins m ((joins (suc m)).parent - 1) (joins (suc m)).site k i + 1 + (parts (suc m)).far (joins (suc m)).own j
  unfolding far_in
  far_on k i l j p q = rw (ne_eqb k (suc m) (λ e. omega arith), far_in) (rw (eq-eqb l (suc m) q))

  pub far_off : (k i l j : ℕ) → k ≡ suc m → l ≤ m
      → far_in parts joins (suc m) k i l j ≡ (parts (suc m)).far (joins (suc m)).own i + 1 + far_in parts joins m ((joins (suc m)).parent - 1) (joins (suc m)).site l j
  unfolding far_in
  far_off k i l j p q = rw (eq-eqb k (suc m) p, far_in) (rw (ne_eqb l (suc m) (λ e. omega arith)))

  pub far_new : (k i l j : ℕ) → k ≡ suc m → l ≡ suc m → far_in parts joins (suc m) k i l j ≡ (parts (suc m)).far i j
  unfolding far_in
  far_new k i l j p q = rw (eq-eqb k (suc m) p, far_in) (rw (eq-eqb l (suc m) q))

  pub sight_old : (k i : ℕ) → k ≤ m
      → sight_in parts joins (suc m) k i ≡ grow (sight_in parts joins m k i) (far_in parts joins m ((joins (suc m)).parent - 1) (joins (suc m)).site k i) ((parts (suc m)).sight (joins (suc m)).own)
  unfolding sight_in
  sight_old k i p = rw (ne_eqb k (suc m) (λ e. omega arith), sight_in)

  pub sight_new : (k i : ℕ) → k ≡ suc m
      → sight_in parts joins (suc m) k i ≡ grow ((parts (suc m)).sight i) ((parts (suc m)).far (joins (suc m)).own i) (sight_in parts joins m ((joins (suc m)).parent - 1) (joins (suc m)).site)
  unfolding sight_in
  sight_new k i p = rw (eq-eqb k (suc m) p, sight_in)

-- where atoms stand in the table of all
module _ (tables : ℕ → Table) (joins : ℕ → Join) where
  pub size_by : (m : ℕ) → start_by tables (suc m) ≡ (written_by tables joins m).atoms
  unfolding start_by written_by joined_by
  size_by zero = omega arith
  size_by (suc m) = ap (λ (n : ℕ). n + (tables (suc m)).atoms) (size_by m)

  start_next : (n : ℕ) → start_by tables (suc n) ≡ start_by tables n + (tables n).atoms
  unfolding start_by
  start_next n = refl

  start_most : (n m : ℕ) → n ≤ m → start_by tables (suc n) ≤ start_by tables (suc m)
  unfolding start_by
  start_most n zero h = let e : n ≡ 0 = omega arith in le_of_eq (ap (λ (k : ℕ). start_by tables (suc k)) e)
  start_most n (suc m) h = ⊎_elim (λ q. omega (arith, start_most n m q)) (λ q. le_of_eq (ap (λ (k : ℕ). start_by tables (suc k)) q)) (le-suc_iff.0 h)

  pub placed_by : (m k i : ℕ) → k ≤ m → Within (tables k).atoms i → Within (written_by tables joins m).atoms (start_by tables k + i)
  placed_by m k i h w = omega (arith, size_by m, start_most k m h, start_next k)

-- what composing up to an index gives is what the table of all says
pub record WholeTable (parts : ℕ → Part) (tables : ℕ → Table) (joins : ℕ → Join) (m : ℕ) : Type 0 where
  pub six : six_in parts joins m ≡ six_of (written_by tables joins m)
  pub sight : (k i : ℕ) → k ≤ m → Within (tables k).atoms i → sight_in parts joins m k i ≡ sight_of (written_by tables joins m) (start_by tables k + i)
  pub far : (k i l j : ℕ) → k ≤ m → Within (tables k).atoms i → l ≤ m → Within (tables l).atoms j
      → far_in parts joins m k i l j ≡ (written_by tables joins m).far (start_by tables k + i) (start_by tables l + j)
  pub alone : (k i : ℕ) → k ≤ m → Within (tables k).atoms i → seen_by (written_by tables joins m) (start_by tables k + i) (is_at 0) ≡ 1

module _ {parts : ℕ → Part} {tables : ℕ → Table} {joins : ℕ → Join} where
  whole_first : Told (parts 0) (tables 0) → WholeTable parts tables joins 0
  unfolding six_in sight_in far_in written_by start_by
  whole_first t = record {
    six = t.six;
    sight = λ k i h w. let e : k ≡ 0 = omega arith in rw (e, zero-add i) (t.sight i (rw e at w));
    far = λ k i l j h w q v. let e : k ≡ 0 = omega arith in let f : l ≡ 0 = omega arith in rw (e, f, zero-add i, zero-add j) (t.far i j (rw e at w) (rw f at v));
    alone = λ k i h w. let e : k ≡ 0 = omega arith in rw (e, zero-add i) (t.alone i (rw e at w));
  }

  module _ (m : ℕ) (w : WholeTable parts tables joins m) (t : Told (parts (suc m)) (tables (suc m))) (f : Fits (λ k. (tables k).atoms) joins (suc m)) where
    abbrev s : Table
    s = written_by tables joins m

    abbrev h : Table
    h = tables (suc m)

    abbrev a : ℕ
    a = site_by tables joins (suc m)

    abbrev b : ℕ
    b = (joins (suc m)).own

    abbrev p : ℕ
    p = (joins (suc m)).parent - 1

    early : p ≤ m
    early = omega (arith, f.parent)

    some : 1 ≤ s.atoms
    some = omega (arith, placed_by tables joins m p (joins (suc m)).site early f.site)

    new : 1 ≤ h.atoms
    new = omega (arith, f.own)

    site : sight_in parts joins m p (joins (suc m)).site ≡ sight_of s a
    site = w.sight p (joins (suc m)).site early f.site

    behind : (k i : ℕ) → k ≡ suc m → start_by tables k + i ≡ s.atoms + i
    behind k i e = ap (λ (x : ℕ). x + i) (ap (start_by tables) e ∙ size_by tables joins m)

    inside : (k i : ℕ) → k ≡ suc m → Within (tables k).atoms i → Within h.atoms i
    inside k i e v = subst (λ (n : ℕ). Within (tables n).atoms i) e v

    before : (k i : ℕ) → k ≤ m → Within (tables k).atoms i → start_by tables k + i ≤ s.atoms
    before k i q v = (placed_by tables joins m k i q v).high

    next_six : six_in parts joins (suc m) ≡ six_of (written_by tables joins (suc m))
    unfolding six_in written_by
    next_six =
        rw (w.six, t.six, site, t.sight b f.own) (sym (six_joined s h a b some new (w.alone p (joins (suc m)).site early f.site) (t.alone b f.own)))

    next_sight : (k i : ℕ) → k ≤ suc m → Within (tables k).atoms i → sight_in parts joins (suc m) k i ≡ sight_of (written_by tables joins (suc m)) (start_by tables k + i)
    unfolding written_by
    next_sight k i q v =
        last_or k m q
        (λ e. sight_new parts joins m k i e
        ∙ rw (site, t.sight i (inside k i e v), t.far b i f.own (inside k i e v), behind k i e)
        (sym (sight_second s h a b i v.low some (w.alone p (joins (suc m)).site early f.site))))
        (λ e. sight_old parts joins m k i e
        ∙ rw (w.sight k i e v, w.far p (joins (suc m)).site k i early f.site e v, t.sight b f.own)
        (sym (sight_first s h a b (start_by tables k + i) (before k i e v) new (t.alone b f.own))))

    next_alone : (k i : ℕ) → k ≤ suc m → Within (tables k).atoms i → seen_by (written_by tables joins (suc m)) (start_by tables k + i) (is_at 0) ≡ 1
    unfolding written_by
    next_alone k i q v =
        last_or k m q
        (λ e. rw (behind k i e) (alone_second s h a b i v.low ∙ t.alone i (inside k i e v)))
        (λ e. alone_first s h a b (start_by tables k + i) (before k i e v) ∙ w.alone k i e v)

    next_far : (k i l j : ℕ) → k ≤ suc m → Within (tables k).atoms i → l ≤ suc m → Within (tables l).atoms j
        → far_in parts joins (suc m) k i l j ≡ (written_by tables joins (suc m)).far (start_by tables k + i) (start_by tables l + j)
    unfolding written_by joined_by
    next_far k i l j q v r u =
        last_or k m q
        (λ e. last_or l m r
        (λ g. far_new parts joins m k i l j e g
        ∙ rw (t.far i j (inside k i e v) (inside l j g u), behind k i e, behind l j g) (sym (far_second s h a b i j v.low u.low)))
        (λ g. far_off parts joins m k i l j e g
        ∙ rw (t.far b i f.own (inside k i e v), w.far p (joins (suc m)).site l j early f.site g u, behind k i e) (sym (far_back s h a b i (start_by tables l + j) v.low (before l j g u)))))
        (λ e. last_or l m r
        (λ g. far_on parts joins m k i l j e g
        ∙ rw (t.far b j f.own (inside l j g u), w.far p (joins (suc m)).site k i early f.site e v, behind l j g) (sym (far_cross s h a b (start_by tables k + i) j (before k i e v) u.low)))
        (λ g. far_old parts joins m k i l j e g
        ∙ rw (w.far k i l j e v g u) (sym (far_first s h a b (start_by tables k + i) (start_by tables l + j) (before k i e v) (before l j g u)))))

    whole_next : WholeTable parts tables joins (suc m)
    whole_next = record { six = next_six; sight = next_sight; far = next_far; alone = next_alone }

  -- THE FIELDS BY TABLES: composing by what is kept is summing over all pairs of placed atoms
  pub whole : (m : ℕ) → ((k : ℕ) → k ≤ m → Told (parts k) (tables k)) → ((k : ℕ) → 1 ≤ k → k ≤ m → Fits (λ k. (tables k).atoms) joins k) → WholeTable parts tables joins m
  whole zero t f = whole_first (t 0 (omega arith))
  whole (suc m) t f =
      whole_next m (whole m (λ k h. t k (omega arith)) (λ k h q. f k h (omega arith))) (t (suc m) (omega arith)) (f (suc m) (omega arith) (omega arith))
