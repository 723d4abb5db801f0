-- One start after the other: what is ready for a start, and what the starts add up to. Assumes nothing.
use Prim.Native.Nat.{ℕ, ◌+◌, ◌*◌, ◌/◌, min, ◌≤◌, ◌<◌}
use mathlib.Core.Bool.{cond}
use mathlib.Core.List.{List}
use mathlib.Core.Path.{◌≡◌, sym, ◌∙◌, ap}
use native.Mathlib.Nat.{mul-le-mul_right, div-mul_cancel}
use native.Mathlib.Numerals.{add-one}
use native.Mathlib.Omega.{arith}
use lib.Dec.{ltb}
use lib.ListN.{length, get_or}
use Rattle.graph.specs.Graph.{Within, sum}
use Rattle.graph.specs.Sums.{sum_le}
use Rattle.graph.specs.Paths.{path_count, denominator, share}
use Rattle.graph.specs.Notions.{weight, gathered, lcm_starts}
use Rattle.graph.specs.Lcm.{starts_pos, starts_all}
use Rattle.graph.specs.Steps.{count_pos}
use Rattle.graph.specs.Backwards.{pair_pos}
use Rattle.graph.specs.Uses.{share_rows}
use Rattle.block.specs.Block.{most_atoms, bonds_of, graph_of}
use Rattle.block.specs.Numbered.{bond_at}
use Rattle.block.specs.Lent.{EntriesFilled}
use Rattle.shares.specs.Reply.{most_denominator}
use Rattle.shares.specs.Work.{cap, full, at, CappedRow, carried, sofar, Start, WholeBlock, Sofar, StartRows, SharesRoom}
use Rattle.shares.proofs.Scaling.{next_divides, sofar_scaled}
use Rattle.shares.proofs.Flowing.{count_low, carried_low}

module _ {n : ℕ} {xs : List ℕ} {i d : ℕ} (W : WholeBlock n xs i d) where
  module _ (hi : Within n i) {c : List ℕ} (h : CappedRow n cap (path_count (graph_of n xs) i) c) where
    pub counts_pos : (v : ℕ) → Within n v → 0 < at c v
    counts_pos v hv = omega (arith, h.holds v hv, count_pos W.molecule hi hv)

    -- the weights are those of the exact counts
    pub weighs : {q : ℕ → ℕ} → ((v : ℕ) → Within n v → q v ≡ cond (ltb i v) (d / at c v) 0) → (v : ℕ) → Within n v → q v ≡ weight (graph_of n xs) d i v
    unfolding weight
    weighs e v hv =
        let exact : at c v ≡ path_count (graph_of n xs) i v = omega (arith, h.holds v hv, count_low W hi hv) in
        e v hv ∙ ap (λ (x : ℕ). cond (ltb i v) (d / x) 0) exact

    pub ready : {near row sets t : List ℕ} {top : ℕ} → Start n (bonds_of xs) near row sets top i
        → CappedRow n full (gathered (graph_of n xs) i (weight (graph_of n xs) d i)) t → StartRows n xs row c t i d
    ready s p = record { whole = W; far = s.far; start = hi; counts = h; passed = p }

  pub whole_pos : 0 < d
  whole_pos = omega (arith, W.is, starts_pos (path_count (graph_of n xs)) n (pair_pos W.molecule) i)

  -- D of other starts
  pub whole_at : (j e : ℕ) → e ≡ min cap (lcm_starts n (path_count (graph_of n xs)) j) → e ≤ most_denominator → WholeBlock n xs j e
  whole_at j e q l = record { small = W.small; molecule = W.molecule; plain = W.plain; is = omega arith; low = l }

  -- what some starts add up to is not much
  sofar_low : (j : ℕ) → j ≤ n → (k : ℕ) → sofar n xs j d k ≤ most_atoms * full
  sofar_low j l k =
      let some : sofar n xs j d k ≤ j * full = sum_le j (λ s w. carried_low W (record { low = w.low; high = omega arith }) (bond_at xs k)) in
      let more : j * full ≤ most_atoms * full = let few : j ≤ most_atoms = omega (arith, W.small) in mul-le-mul_right full few in
      omega arith

  pub sofar_room : (j : ℕ) → j ≤ n → {out : List ℕ} → Sofar n xs j d out → SharesRoom xs out
  sofar_room j l s = record { room = s.room; low = λ k h. omega (arith, s.first k h, sofar_low j l k) }

  -- the last start
  pub sofar_all : i ≡ n → {out : List ℕ} → Sofar n xs i d out → (k : ℕ) → k < length xs / 2 → get_or out k 0 ≡ share (graph_of n xs) (bond_at xs k)
  unfolding denominator
  sofar_all z s k l =
      let whole : d ≡ denominator (graph_of n xs) = W.is ∙ ap (lcm_starts n (path_count (graph_of n xs))) z ∙ starts_all (path_count (graph_of n xs)) n (pair_pos W.molecule) in
      s.first k l ∙ ap (λ (m : ℕ). sofar n xs m d k) z ∙ rw whole (sym (share_rows (graph_of n xs) (bond_at xs k)))

-- D grows, and the entries with it
module _ {n : ℕ} {xs : List ℕ} {i d e : ℕ} (W : WholeBlock n xs i d) (X : WholeBlock n xs (i + 1) e) (few : i ≤ n) where
  grows : (k : ℕ) → sofar n xs i d k * (e / d) ≡ sofar n xs i e k
  grows k =
      let factor : e / d * d ≡ e = div-mul_cancel d (rw (W.is, X.is) (next_divides W.molecule i)) in
      omega (
        arith,
        ap (λ (x : ℕ). sofar n xs i x k) factor,
        ap (λ (x : ℕ). sofar n xs i (e / d * x) k) W.is,
        ap (λ (x : ℕ). e / d * sofar n xs i x k) W.is,
        sofar_scaled W.molecule i (e / d) few (bond_at xs k),
      )

  pub raise_fits : {out : List ℕ} → Sofar n xs i d out → (k : ℕ) → k < length xs / 2 → get_or out k 0 * (e / d) ≤ most_atoms * full
  raise_fits s k l = omega (arith, ap (λ (x : ℕ). x * (e / d)) (s.first k l), grows k, sofar_low X i few k)

  pub raised : {out new : List ℕ} → Sofar n xs i d out → EntriesFilled (length xs / 2) (λ k. get_or out k 0 * (e / d)) out new → Sofar n xs i e new
  raised s f = record { room = omega (arith, s.room, f.same); first = λ k l. f.first k l ∙ ap (λ (x : ℕ). x * (e / d)) (s.first k l) ∙ grows k }

pub added : {n : ℕ} {xs : List ℕ} {i d : ℕ} {out new : List ℕ} → Sofar n xs i d out
    → EntriesFilled (length xs / 2) (λ k. get_or out k 0 + carried (graph_of n xs) (i + 1) d (bond_at xs k)) out new → Sofar n xs (i + 1) d new
unfolding sum
added {n} {xs} {i} {d} s f = record {
  room = omega (arith, s.room, f.same);
  first = λ k l. f.first k l ∙ ap (λ (x : ℕ). x + carried (graph_of n xs) (i + 1) d (bond_at xs k)) (s.first k l) ∙ rw (add-one i);
}
