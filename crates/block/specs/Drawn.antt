-- Laws. A set has the atoms that pass its test, and is the only number that does; so the neighbours that reading gives are those of the graph. Assumes nothing.
use Rattle.std.specs.Prelude.{ℕ, zero, suc, ◌+◌, ◌*◌, ◌-◌, ◌/◌, ◌%◌, ◌^◌, ◌≤◌, ◌<◌, Bool, true, false, not, ◌&&◌, ◌||◌, cond, List, ◌≡◌, eqb, get_or}
use Rattle.std.proofs.Math.Path.{refl}
use Rattle.std.proofs.Common.{sym, ap, ◌∙◌, mod-lt, pow-suc, arith, eq-eqb, ne_eqb, pow_pos, ext_get_or}
use Rattle.std.proofs.Math.Decide.{ℕ_discrete, dec_lt}
use Rattle.std.proofs.lemmas.Bool.{eqb-false}
use Rattle.std.specs.Int.Bits.{bit_or, bit_xor}
use Rattle.std.proofs.lemmas.Nat.{or_shifted}
use Rattle.std.proofs.Math.Pow.{split}
use Rattle.graph.specs.Graph.{Graph, Within, bonded, sum}
use Rattle.graph.specs.Sums.{wider, last, sum_cong, sum_none}
use Rattle.graph.specs.Distance.{not_true}
use Rattle.graph.specs.Sets.{has, alone}
use Rattle.graph.specs.SetLaws.{has_or, has_xor, has-alone, none_above, taken_one}
use Rattle.reply.specs.Read.{Read, refused, read, ◌then◌}
use Rattle.block.specs.Block.{most_atoms, graph_of, drawn_reply, block_reply}
use Rattle.block.specs.Rows.{table, no_row, lent_row}
use Rattle.block.specs.Tables.{length-table, get_or-table}
use Rattle.block.specs.Near.{around, ShowsGraph}
use Rattle.block.specs.Opened.{set_of, neighbours_of, drawn_near, opened_near}
use Rattle.reply.specs.declared.Refusal.{Refusal}

pub set_fits : (n : ℕ) (p : ℕ → Bool) → set_of n p < 2 ^ n
unfolding sum
set_fits zero p = omega arith
set_fits (suc n) p = omega (arith, set_fits n p, pow-suc 2 n, at_most (p (suc n)))
  where
    at_most : (t : Bool) → cond t (alone (suc n)) 0 ≤ 2 ^ n
    at_most true = let e : suc n - 1 ≡ n = omega arith in omega (arith, ap (λ (x : ℕ). 2 ^ x) e)
    at_most false = omega arith

-- one atom more
pub set_more : (n : ℕ) (p : ℕ → Bool) → p (suc n) ≡ true → set_of (suc n) p ≡ bit_or (1 * 2 ^ n) (set_of n p)
unfolding sum
set_more n p e =
    let k : suc n - 1 ≡ n = omega arith in
    rw e (omega (arith, or_shifted 1 n (set_of n p) (set_fits n p), ap (λ (x : ℕ). 2 ^ x) k))

pub set_same : (n : ℕ) (p : ℕ → Bool) → p (suc n) ≡ false → set_of (suc n) p ≡ set_of n p
unfolding sum
set_same n p e = rw e (omega arith)

alone_last : (n v : ℕ) → 1 ≤ v → has (1 * 2 ^ n) v ≡ eqb v (suc n)
alone_last n v l =
    let e : 1 * 2 ^ n ≡ alone (suc n) = let k : suc n - 1 ≡ n = omega arith in omega (arith, ap (λ (x : ℕ). 2 ^ x) k) in
    ap (λ (x : ℕ). has x v) e ∙ has-alone (suc n) v (omega arith) l

pub has_set : (n : ℕ) (p : ℕ → Bool) (v : ℕ) → Within n v → has (set_of n p) v ≡ p v
has_set zero p v w = absurd (omega arith)
has_set (suc n) p v w = go (p (suc n)) refl (ℕ_discrete v (suc n)) (λ q. has_set n p v q)
  where
    go : (t : Bool) → p (suc n) ≡ t → Dec (v ≡ suc n) → (Within n v → has (set_of n p) v ≡ p v) → has (set_of (suc n) p) v ≡ p v
    go true e (yes q) rec =
        ap (λ (x : ℕ). has x v) (set_more n p e) ∙ has_or (1 * 2 ^ n) (set_of n p) v ∙ rw (alone_last n v w.low, eq-eqb v (suc n) q) (sym (ap p q ∙ e))
    go true e (no q) rec =
        ap (λ (x : ℕ). has x v) (set_more n p e) ∙ has_or (1 * 2 ^ n) (set_of n p) v ∙ rw (alone_last n v w.low, ne_eqb v (suc n) q) (rec (omega arith))
    go false e (yes q) rec = ap (λ (x : ℕ). has x v) (set_same n p e) ∙ none_above n (set_of n p) v (set_fits n p) (omega arith) ∙ sym (ap p q ∙ e)
    go false e (no q) rec = ap (λ (x : ℕ). has x v) (set_same n p e) ∙ rec (omega arith)

-- a number that has no digit at n is less than 2 ^ n
no_last : (n m : ℕ) → m < 2 ^ suc n → has m (suc n) ≡ false → m < 2 ^ n
unfolding has
no_last n m l e =
    let k : suc n - 1 ≡ n = omega arith in
    go (m / 2 ^ n) refl (λ o. eqb-false (m / 2 ^ (suc n - 1) % 2) 1 e (ap (λ (x : ℕ). m / 2 ^ x % 2) k ∙ o))
  where
    go : (q : ℕ) → m / 2 ^ n ≡ q → (m / 2 ^ n % 2 ≡ 1 → ⊥) → m < 2 ^ n
    go zero f h = omega (arith, split m n, ap (λ (x : ℕ). x * 2 ^ n) f, mod-lt m (pow_pos n))
    go (suc zero) f h = absurd (h (rw f refl))
    go (suc (suc q)) f h =
        let g : suc (suc q) ≡ q + 2 = omega arith in
        absurd (omega (arith, split m n, ap (λ (x : ℕ). x * 2 ^ n) (f ∙ g), pow-suc 2 n))

-- no other number has the same atoms
pub set_is : (n m : ℕ) (p : ℕ → Bool) → m < 2 ^ n → ((v : ℕ) → Within n v → has m v ≡ p v) → m ≡ set_of n p
unfolding sum
set_is zero m p l h = omega arith
set_is (suc n) m p l h = go (p (suc n)) refl (set_is n (bit_xor m (alone (suc n))) p) (set_is n m p)
  where
    out : (v : ℕ) → Within n v → has (bit_xor m (alone (suc n))) v ≡ p v
    out v w = has_xor m (alone (suc n)) v ∙ rw (has-alone (suc n) v (omega arith) w.low, ne_eqb v (suc n) (omega arith), h v (wider w)) (plain (p v))
      where
        plain : (t : Bool) → ((t && not false) || (not t && false)) ≡ t
        plain true = refl
        plain false = refl

    go : (t : Bool) → p (suc n) ≡ t → (bit_xor m (alone (suc n)) < 2 ^ n → ((v : ℕ) → Within n v → has (bit_xor m (alone (suc n))) v ≡ p v) → bit_xor m (alone (suc n)) ≡ set_of n p)
        → (m < 2 ^ n → ((v : ℕ) → Within n v → has m v ≡ p v) → m ≡ set_of n p) → m ≡ set_of (suc n) p
    go true e with_it without =
        let k : suc n - 1 ≡ n = omega arith in
        let s = taken_one m (suc n) (h (suc n) (last n) ∙ e) in
        let low : bit_xor m (alone (suc n)) < 2 ^ n = omega (arith, s, pow-suc 2 n, ap (λ (x : ℕ). 2 ^ x) k) in
        omega (arith, s, with_it low out, ap (λ (t : Bool). set_of n p + cond t (alone (suc n)) 0) e)
    go false e with_it without =
        omega (arith, without (no_last n m l (h (suc n) (last n) ∙ e)) (λ v w. h v (wider w)), ap (λ (t : Bool). set_of n p + cond t (alone (suc n)) 0) e)

-- the neighbours that show a graph are its neighbours
pub drawn_is : (g : Graph) (near : List ℕ) → ShowsGraph g near → near ≡ neighbours_of g
unfolding neighbours_of
drawn_is g near D =
    ext_get_or 0 near (table most_atoms sets) (D.size ∙ sym (length-table most_atoms sets))
    (λ u l. let m : u < most_atoms = omega (arith, D.size) in at u (dec_lt u g.atoms) ∙ sym (get_or-table most_atoms sets u 0 m))
  where
    sets : ℕ → ℕ
    sets u = set_of g.atoms (bonded g (suc u))

    at : (u : ℕ) → Dec (u < g.atoms) → get_or near u 0 ≡ set_of g.atoms (bonded g (suc u))
    at u (yes h) =
        let e : suc u - 1 ≡ u = omega arith in
        set_is g.atoms (get_or near u 0) (bonded g (suc u)) (D.fits u) (λ w hw. ap (λ (x : ℕ). has (get_or near x 0) w) (sym e) ∙ D.drawn (suc u) w (omega arith) hw)
    at u (no h) =
        D.behind u (omega arith)
        ∙ sym (sum_cong g.atoms (λ w hw. ap (λ (t : Bool). cond t (alone w) 0) (not_true (bonded g (suc u) w) (λ e. let (x, y) = D.ends (suc u) w e in omega arith))) ∙ sum_none g.atoms)

-- what the neighbours of a block tell
pub neighbour_fits : (g : Graph) (u : ℕ) → Within most_atoms u → around (neighbours_of g) u < 2 ^ g.atoms
unfolding neighbours_of
neighbour_fits g u w =
    let e = get_or-table most_atoms (λ k. set_of g.atoms (bonded g (suc k))) (u - 1) 0 (omega arith) in
    omega (arith, e, set_fits g.atoms (bonded g (suc (u - 1))))

pub has_neighbour : (g : Graph) (u v : ℕ) → Within most_atoms u → Within g.atoms v → has (around (neighbours_of g) u) v ≡ bonded g u v
unfolding neighbours_of
has_neighbour g u v w x =
    let k : suc (u - 1) ≡ u = omega arith in
    ap (λ (m : ℕ). has m v) (get_or-table most_atoms (λ k. set_of g.atoms (bonded g (suc k))) (u - 1) 0 (omega arith))
    ∙ has_set g.atoms (bonded g (suc (u - 1))) v x
    ∙ ap (λ (y : ℕ). bonded g y v) k

-- what is lent after a block was read, refused or not
module _ (n : ℕ) (xs : List ℕ) where
  pub none_drawn : (drawn_reply n xs ≡ read tt → ⊥) → drawn_near n xs ≡ no_row
  unfolding drawn_near
  none_drawn h = go (drawn_reply n xs) h
    where
      go : (m : Read (Unit {0})) → (m ≡ read tt → ⊥) → lent_row (m then λ _. read (neighbours_of (graph_of n xs))) ≡ no_row
      go (refused r) ne = refl
      go (read tt) ne = absurd (ne refl)

  pub drawn_near_lem : drawn_reply n xs ≡ read tt → drawn_near n xs ≡ neighbours_of (graph_of n xs)
  unfolding drawn_near
  drawn_near_lem e = rw (e, drawn_near)

  pub none_opened : {r : Refusal} → block_reply n xs ≡ refused r → opened_near n xs ≡ no_row
  unfolding opened_near
  none_opened e = rw (e, opened_near)

  pub opened_near_lem : block_reply n xs ≡ read tt → opened_near n xs ≡ neighbours_of (graph_of n xs)
  unfolding opened_near
  opened_near_lem e = rw (e, opened_near)
