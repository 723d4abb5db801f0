-- A row that is filled place by place, the place of an opened block, and one arm more. Assumes nothing.
use Prim.Native.Nat.{ℕ, ◌+◌, ◌≤◌, ◌<◌}
use mathlib.Core.Bool.{Bool, true, false}
use mathlib.Core.List.{List}
use mathlib.Core.Path.{◌≡◌, refl, sym, ◌∙◌}
use native.Mathlib.Numerals.{add-one}
use native.Mathlib.Omega.{arith}
use borrow.Author.Tests.{eqb-true, eqb-false}
use lib.Dec.{eqb}
use lib.ListN.{length, get_or, set, length-set, replicate, length-replicate}
use lib.Seq.{ext_get_or, get_or-set_same, get_or-set_other, length-sets}
use Rattle.reply.specs.Read.{Read, refused, read}
use Rattle.block.specs.Block.{graph_of}
use Rattle.block.specs.Rows.{table}
use Rattle.block.specs.Tables.{length-table, get_or-table}
use Rattle.block.specs.declared.Indices.{Indices}
use Rattle.block.specs.declared.Vertex.{Vertex}
use Rattle.sighted.specs.declared.Seen.{Seen}
use Rattle.summary.specs.Layout.{summary_bytes, stored_fields, seen_at}
use Rattle.summary.specs.Summary.{summary_of}
use Rattle.filling.specs.Reply.{fill_reply, filled_summary}
use Rattle.joining.specs.Joining.{grown_of, joined_of}
use Rattle.arms.specs.Arms.{most_arms, no_port, no_arm, opened, arm_in, ports_near, port_in, core_in, sight_from, sight_of, six_of, stem_of}
use Rattle.arms.specs.declared.Arm.{Arm}
use Rattle.arms.specs.declared.Core.{Core}
use Rattle.arms.specs.declared.Port.{Port}

module _ {A : Type 0} (none : A) (f : ℕ → A) (l : List A) where
  pub put_next : (k : ℕ) (x : A) → k < length l → x ≡ f k → ((j : ℕ) → j < k → get_or l j none ≡ f j) → (j : ℕ) → j < k + 1 → get_or (set l k x) j none ≡ f j
  put_next k x h e old j i = go (eqb j k) refl
    where
      go : (t : Bool) → eqb j k ≡ t → get_or (set l k x) j none ≡ f j
      go true q = let z : j ≡ k = eqb-true j k q in rw z (get_or-set_same l k x none h ∙ e)
      go false q = let z = eqb-false j k q in get_or-set_other l k j x none z ∙ old j (omega (arith, z))

-- a row of n places, of which the first k say f
pub record FilledTo {A : Type 0} (none : A) (f : ℕ → A) (n : ℕ) (l : List A) (k : ℕ) : Type 0 where
  pub size : length l ≡ n
  pub few : k ≤ n
  pub says : (j : ℕ) → j < k → get_or l j none ≡ f j

module _ {A : Type 0} {none : A} {f : ℕ → A} {n : ℕ} {l : List A} where
  pub filled_none : length l ≡ n → FilledTo none f n l 0
  filled_none e = record { size = e; few = omega arith; says = λ j h. absurd (omega arith) }

  pub filled_next : {k : ℕ} {x : A} → FilledTo none f n l k → k < n → x ≡ f k → FilledTo none f n (set l k x) (k + 1)
  filled_next {k} {x} p h e = record { size = length-set l k x ∙ p.size; few = omega arith; says = put_next none f l k x (omega (arith, p.size)) e p.says }

  pub filled_all : {k : ℕ} → FilledTo none f n l k → n ≤ k → l ≡ table n f
  filled_all p h = ext_get_or none l (table n f) (p.size ∙ sym (length-table n f)) (λ j i. p.says j (omega (arith, p.size)) ∙ sym (get_or-table n f j none (omega (arith, p.size))))

pub opened_long : (number n : ℕ) (bonds : List ℕ) → length (opened number n bonds) ≡ summary_bytes
unfolding opened filled_summary
opened_long number n bonds = go (fill_reply n bonds (length (replicate {A = ℕ} summary_bytes 0)))
  where
    go : (r : Read (Unit {0})) → length (filled_summary r number (graph_of n bonds) (replicate summary_bytes 0)) ≡ summary_bytes
    go (refused r) = length-replicate {A = ℕ} summary_bytes 0
    go (read u) = length-sets (replicate summary_bytes 0) 0 (summary_of number (graph_of n bonds)) ∙ length-replicate {A = ℕ} summary_bytes 0

pub arm_kept : (s : List ℕ) (a : ℕ) (x : Indices) (y : Seen) → x ≡ stored_fields s → y ≡ seen_at s a → record { six = x; end = y.counts } ≡ arm_in s a
arm_kept s a x y e q = rw (e, q)

pub port_kept : (s atoms : List ℕ) (a : ℕ) (x : Seen) (near : List ℕ) → x ≡ seen_at s a → near ≡ ports_near x.row atoms → record { counts = x.counts; near = near } ≡ port_in s atoms a
unfolding port_in
port_kept s atoms a x near e h = rw h (rw e refl)

pub core_kept : (s atoms : List ℕ) (x : Indices) (ends : List Port) → x ≡ stored_fields s → ends ≡ table most_arms (λ k. port_in s atoms (get_or atoms k 0)) → record { six = x; ends = ends } ≡ core_in s atoms
unfolding core_in
core_kept s atoms x ends e h = rw (e, h)

-- one arm more
module _ (ends : List Port) (arms : List Arm) (b : ℕ) (v₀ : Vertex) where
  pub sight_start : v₀ ≡ sight_from ends arms b v₀ 0
  unfolding sight_from
  sight_start = refl

  pub sight_next : (m : ℕ) (v w : Vertex) (d : ℕ) → v ≡ sight_from ends arms b v₀ m → d ≡ get_or (get_or ends m no_port).near b 0 → w ≡ grown_of v d (get_or arms m no_arm).end → w ≡ sight_from ends arms b v₀ (m + 1)
  unfolding sight_from
  sight_next m v w d e q h = rw (add-one m) (h ∙ rw (e, q) refl)

module _ (core : Core) (arms : List Arm) where
  pub six_start : core.six ≡ six_of core arms 0
  unfolding six_of
  six_start = refl

  pub sight_first : (get_or core.ends 0 no_port).counts ≡ sight_of core arms 0 0
  unfolding sight_from
  sight_first = refl

  pub six_next : (k : ℕ) (x y : Indices) (v : Vertex) → x ≡ six_of core arms k → v ≡ sight_of core arms k k → y ≡ joined_of x (get_or arms k no_arm).six v (get_or arms k no_arm).end → y ≡ six_of core arms (k + 1)
  unfolding six_of
  six_next k x y v e q h = rw (add-one k) (h ∙ rw (e, q) refl)

  pub stem_end : (k m : ℕ) (x : Indices) (v : Vertex) → k ≡ m → x ≡ six_of core arms k → v ≡ sight_of core arms k k → record { six = x; from = v } ≡ stem_of core arms m
  stem_end k m x v e h i = rw (h, i, e)
