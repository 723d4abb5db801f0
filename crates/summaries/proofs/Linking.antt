-- The table of an assembly that is fine is what composing works on. Assumes nothing.
use Prim.Native.Nat.{ℕ, ◌+◌, ◌*◌, ◌-◌, ◌/◌, ◌%◌, ◌≤◌, ◌<◌}
use mathlib.Core.List.{List}
use mathlib.Core.Logic.{⊎_elim}
use mathlib.Core.Path.{◌≡◌, sym, ◌∙◌, ap, subst}
use native.Mathlib.Nat.{eq-or-lt_of_le}
use native.Mathlib.Omega.{arith}
use lib.ListN.{length, get_or, set, length-set}
use lib.Seq.{get_or-set_same, get_or-set_other}
use Rattle.graph.specs.Graph.{Within}
use Rattle.graph.specs.Assembly.{Join}
use Rattle.reply.specs.Read.{refused, read, refuse_if, is_outside}
use Rattle.reply.specs.Chain.{then-read, if_read}
use Rattle.reply.specs.declared.Refusal.{Refusal}
use Rattle.block.specs.Faults.{inside}
use Rattle.assembly.specs.Placements.{most_placements, placement_count, placement_at, join_of, join_on, sites_on, shelf_reply}
use Rattle.assembly.specs.Sound.{Joined, PlacedRight, right}
use Rattle.joining.specs.Parts.{six_in}
use Rattle.joining.specs.Table.{Fits}
use Rattle.joining.specs.Same.{six_alike}
use Rattle.summary.specs.Layout.{stored_atoms, kept_of}
use Rattle.shelf.specs.Shelf.{summary_at, place_of, shelf_in}
use Rattle.summaries.specs.Composing.{kept_on, composed_reply}
use Rattle.summaries.specs.Ready.{end_of, LinkedUpTo, place_in, kept_in, joins_in, LentBytes, ReadyShelf}

-- a placement more: its own end, the one in its parent, its parent
abbrev pub linked : List ℕ → ℕ → ℕ → ℕ → ℕ → List ℕ
linked ls k own site parent = set (set (set ls (2 * k) own) (2 * k + 1) site) (2 * most_placements + k) parent

module _ (ls : List ℕ) (size : length ls ≡ 3 * most_placements) (k own site parent : ℕ) (few : k < most_placements) where
  own_new : get_or (linked ls k own site parent) (2 * k) 0 ≡ own
  own_new =
      get_or-set_other (set (set ls (2 * k) own) (2 * k + 1) site) (2 * most_placements + k) (2 * k) parent 0 (omega arith)
      ∙ get_or-set_other (set ls (2 * k) own) (2 * k + 1) (2 * k) site 0 (omega arith)
      ∙ get_or-set_same ls (2 * k) own 0 (omega arith)

  site_new : get_or (linked ls k own site parent) (2 * k + 1) 0 ≡ site
  site_new =
      get_or-set_other (set (set ls (2 * k) own) (2 * k + 1) site) (2 * most_placements + k) (2 * k + 1) parent 0 (omega arith)
      ∙ get_or-set_same (set ls (2 * k) own) (2 * k + 1) site 0 (omega (arith, length-set ls (2 * k) own))

  parent_new : get_or (linked ls k own site parent) (2 * most_placements + k) 0 ≡ parent
  parent_new = get_or-set_same (set (set ls (2 * k) own) (2 * k + 1) site) (2 * most_placements + k) parent 0 (omega (arith, length-set (set ls (2 * k) own) (2 * k + 1) site, length-set ls (2 * k) own))

  other : (i : ℕ) → (i ≡ 2 * k → ⊥) → (i ≡ 2 * k + 1 → ⊥) → (i ≡ 2 * most_placements + k → ⊥) → get_or (linked ls k own site parent) i 0 ≡ get_or ls i 0
  other i p q r =
      get_or-set_other (set (set ls (2 * k) own) (2 * k + 1) site) (2 * most_placements + k) i parent 0 r ∙ get_or-set_other (set ls (2 * k) own) (2 * k + 1) i site 0 q ∙ get_or-set_other ls (2 * k) i own 0 p

  pub linked_more : {xs : List ℕ} → LinkedUpTo xs ls k → own / 256 ≡ (placement_at xs k).block → own % 256 ≡ (placement_at xs k).own → site / 256 ≡ (placement_at xs ((placement_at xs k).parent - 1)).block
      → site % 256 ≡ (placement_at xs k).site → parent ≡ (placement_at xs k).parent → LinkedUpTo xs (linked ls k own site parent) (k + 1)
  unfolding join_of
  linked_more {xs} l a c d e f = record {
    size = omega (arith, length-set (set (set ls (2 * k) own) (2 * k + 1) site) (2 * most_placements + k) parent, length-set (set ls (2 * k) own) (2 * k + 1) site, length-set ls (2 * k) own);
    block = λ m h. ⊎_elim (λ q. rw q (rw own_new a)) (λ q. rw (own_old m q) (l.block m q)) (eq-or-lt_of_le {n = m} {m = k} (omega arith));
    home = λ m h. ⊎_elim (λ q. rw q (rw site_new d)) (λ q. rw (site_old m q) (l.home m q)) (eq-or-lt_of_le {n = m} {m = k} (omega arith));
    join = λ m h. ⊎_elim (λ q. rw q (rw (own_new, site_new, parent_new, c, e, f))) (λ q. rw (own_old m q, site_old m q, parent_old m q) (l.join m q)) (eq-or-lt_of_le {n = m} {m = k} (omega arith));
  }
    where
      own_old : (m : ℕ) → m < k → get_or (linked ls k own site parent) (2 * m) 0 ≡ get_or ls (2 * m) 0
      own_old m q = other (2 * m) (omega arith) (omega arith) (omega arith)

      site_old : (m : ℕ) → m < k → get_or (linked ls k own site parent) (2 * m + 1) 0 ≡ get_or ls (2 * m + 1) 0
      site_old m q = other (2 * m + 1) (omega arith) (omega arith) (omega arith)

      parent_old : (m : ℕ) → m < k → get_or (linked ls k own site parent) (2 * most_placements + m) 0 ≡ get_or ls (2 * most_placements + m) 0
      parent_old m q = other (2 * most_placements + m) (omega arith) (omega arith) (omega arith)

module _ (b : List ℕ) {xs ls : List ℕ} {n : ℕ} (l : LinkedUpTo xs ls n) where
  link_place : (m : ℕ) → m < n → place_in b ls m ≡ place_of b (placement_at xs m).block
  link_place m h = ap (place_of b) (l.block m h)

  pub six_linked : 1 ≤ n → n ≡ placement_count xs → six_in (kept_in b ls) (joins_in ls) (n - 1) ≡ six_in (kept_on b xs) (join_on (placement_at xs)) (placement_count xs - 1)
  six_linked h e =
      six_alike (kept_in b ls) (kept_on b xs) (joins_in ls) (join_on (placement_at xs)) (n - 1) (record {
        parts = λ k q. ap (λ (p : ℕ). kept_of (summary_at b p)) (link_place k (omega arith));
        joins = λ k q. l.join k (omega arith);
      })
      ∙ ap (λ (m : ℕ). six_in (kept_on b xs) (join_on (placement_at xs)) (m - 1)) e

  pub ready : LentBytes b → Within most_placements n → PlacedRight (shelf_in b) (placement_at xs) n → ReadyShelf b ls n
  unfolding join_of
  ready e w r = record { lent = e; few = w; fits = λ k p h. fit k h (r.joined k p h); homes = λ k p h. home k h (r.joined k p h) }
    where
      size : (m : ℕ) → m < n → (sites_on (shelf_in b) (placement_at xs) m).atoms ≡ stored_atoms (summary_at b (place_in b ls m))
      size m h = ap (λ (p : ℕ). stored_atoms (summary_at b p)) (sym (link_place m h))

      fit : (k : ℕ) → k < n → Joined (sites_on (shelf_in b) (placement_at xs)) (join_on (placement_at xs)) k → Fits (λ m. stored_atoms (summary_at b (place_in b ls m))) (joins_in ls) k
      fit k h j =
          let e = sym (l.join k h) in
          record {
            parent = subst (λ (x : Join). Within k x.parent) e j.parent;
            site = subst (λ (x : Join). Within (stored_atoms (summary_at b (place_in b ls (x.parent - 1)))) x.site) e (subst (λ (z : ℕ). Within z (join_on (placement_at xs) k).site) (size ((join_on (placement_at xs) k).parent - 1) (omega (arith, j.parent))) j.site);
            own = subst (λ (x : Join). Within (stored_atoms (summary_at b (place_in b ls k))) x.own) e (subst (λ (z : ℕ). Within z (join_on (placement_at xs) k).own) (size k h) j.own);
          }

      home : (k : ℕ) → k < n → Joined (sites_on (shelf_in b) (placement_at xs)) (join_on (placement_at xs)) k → end_of ls (2 * k + 1) / 256 ≡ end_of ls (2 * ((joins_in ls k).parent - 1)) / 256
      home k h j =
          l.home k h
          ∙ sym (l.block ((placement_at xs k).parent - 1) (omega (arith, j.parent)))
          ∙ ap (λ (x : Join). end_of ls (2 * (x.parent - 1)) / 256) (sym (l.join k h))

-- what composing replies
module _ (b xs : List ℕ) where
  pub reply-refused : {r : Refusal} → shelf_reply (shelf_in b) xs ≡ refused r → composed_reply b xs ≡ refused r
  unfolding composed_reply
  reply-refused e = rw e

  pub reply_read : shelf_reply (shelf_in b) xs ≡ read tt → composed_reply b xs ≡ read (six_in (kept_on b xs) (join_on (placement_at xs)) (placement_count xs - 1))
  unfolding composed_reply
  reply_read e = rw e

  pub fine_count : shelf_reply (shelf_in b) xs ≡ read tt → Within most_placements (placement_count xs)
  fine_count e = let (u, p, f) = then-read (refuse_if (is_outside most_placements (placement_count xs)) 15 0) _ e in inside most_placements (placement_count xs) (if_read _ 15 0 p)

  pub fine_right : shelf_reply (shelf_in b) xs ≡ read tt → PlacedRight (shelf_in b) (placement_at xs) (placement_count xs)
  fine_right e = let (u, p, f) = then-read (refuse_if (is_outside most_placements (placement_count xs)) 15 0) _ e in right (shelf_in b) (placement_at xs) (placement_count xs) f
