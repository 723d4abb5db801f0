-- Laws. The core and the arms of an assembly over a deck's blocks, joined one by one, have the fields of the one molecule with every atom and bond written out.
-- Assumes nothing.
use Rattle.std.specs.Prelude.{ℕ, suc, ◌+◌, ◌-◌, ◌≤◌, ◌<◌, true, List, ◌≡◌, take, drop, replicate}
use Rattle.std.proofs.Math.Path.{refl, ap, ap₂}
use Rattle.std.proofs.Common.{◌∙◌, arith}
use Rattle.std.proofs.Math.Decide.{dec_lt}
use Rattle.std.proofs.Math.Nat.{mul-le-mul}
use borrow.Author.Tests.{le-ltb}
use Rattle.std.proofs.Math.ListN.{length, get_or, length-replicate, get_or-eq_default}
use Rattle.std.proofs.lemmas.List.{get_or-replicate}
use Rattle.std.proofs.lemmas.List.Edits.{sets-eq}
use Rattle.std.proofs.Math.Seq.{take_at}
use Rattle.graph.specs.Graph.{Graph}
use Rattle.graph.specs.Assembly.{written}
use Rattle.graph.specs.Bounds.{tame_itself, tame_even, tame_odd, tame_at, total_most}
use Rattle.graph.specs.Largest.{largest_below}
use Rattle.reply.specs.Read.{Read, refused, read}
use Rattle.block.specs.Block.{graph_of, block_reply}
use Rattle.block.specs.Index.{indices_of}
use Rattle.block.specs.Told.{few_atoms, molecule}
use Rattle.block.specs.Tables.{get_or-table}
use Rattle.assembly.specs.Book.{find, used, bond_bytes, book_of}
use Rattle.assembly.specs.Placements.{placement_count, placement_at, graph_on, join_of, join_on, assembly_reply}
use Rattle.assembly.specs.Sound.{whole, assembled}
use Rattle.assembly.specs.declared.BlockAt.{BlockAt}
use Rattle.joining.specs.Bounds.{SixBytes}
use Rattle.joining.specs.Table.{table_of, Told}
use Rattle.joining.proofs.Written.{fields_written}
use Rattle.summary.specs.Layout.{summary_bytes, stored_fields, vertex_at, far_at, kept_of}
use Rattle.summary.specs.Summary.{summary_of}
use Rattle.summary.specs.Back.{summary_fits, fields_told, summary_told}
use Rattle.summaries.specs.Ready.{LentBytes}
use Rattle.summaries.proofs.Ports.{fields_bytes}
use Rattle.filling.specs.Reply.{fill_reply, filled_summary, fill_bytes}
use Rattle.arms.specs.Arms.{most_arms, no_port, no_arm, ports_near, port_in, arm_in, core_in, opened, opened_of, six_of}
use Rattle.arms.specs.Composed.{Keeps, six_composed}
use Rattle.arms.specs.declared.Arm.{Arm}
use Rattle.arms.specs.declared.Core.{Core}
use Rattle.arms.specs.declared.Port.{Port}

-- a block opened into a place
module _ (number n : ℕ) (bonds : List ℕ) where
  abbrev g : Graph
  g = graph_of n bonds

  module _ (fine : block_reply n bonds ≡ read tt) where
    begins : (out : List ℕ) → summary_bytes ≤ length out → take (length (summary_of number g)) (fill_bytes number n bonds out) ≡ summary_of number g
    unfolding fill_reply filled_summary
    begins out room =
        let t = summary_of number g in
        let h : 0 + length t ≤ length out = omega (arith, summary_fits number n bonds fine) in
        rw (fine, le-ltb (length out) summary_bytes room)
        (ap (take (length t)) (sets-eq t out 0 h) ∙ take_at t (drop (0 + length t) out) (length t) refl)

    opened_begins : take (length (summary_of number g)) (opened number n bonds) ≡ summary_of number g
    unfolding opened
    opened_begins = begins (replicate summary_bytes 0) (omega (arith, length-replicate {A = ℕ} summary_bytes 0))

    pub opened_told : Told (kept_of (opened number n bonds)) (table_of (graph_of n bonds))
    opened_told = summary_told number n bonds fine (opened number n bonds) opened_begins

    fine_small : SixBytes (stored_fields (opened number n bonds))
    unfolding indices_of
    fine_small =
        let m = molecule n bonds fine in
        let w = few_atoms n bonds fine in
        let q = mul-le-mul w.high (mul-le-mul w.high w.high) in
        rw (fields_told number n bonds fine (opened number n bonds) opened_begins) (record {
          atoms = omega (arith, w.high);
          w = omega (arith, q, total_most m tame_itself);
          even = omega (arith, q, total_most m tame_even);
          odd = omega (arith, q, total_most m tame_odd);
          polarity = omega (arith, q, total_most m (tame_at 3));
          largest = omega (arith, w.high, largest_below m w.low);
        })

  blank : LentBytes (replicate summary_bytes 0)
  blank = record {
    byte = λ i. elim (dec_lt i summary_bytes) [
      | yes h ↦ omega (arith, get_or-replicate {A = ℕ} summary_bytes i 0 0 h)
      | no h ↦ omega (arith, get_or-eq_default {A = ℕ} (replicate summary_bytes 0) 0 {n = i} (omega (arith, length-replicate {A = ℕ} summary_bytes 0)))
    ];
  }

  pub opened_small : SixBytes (stored_fields (opened number n bonds))
  unfolding opened fill_reply filled_summary
  opened_small = go (block_reply n bonds) refl
    where
      go : (r : Read (Unit {0})) → block_reply n bonds ≡ r → SixBytes (stored_fields (opened number n bonds))
      go (refused r) e = rw e (fields_bytes blank)
      go (read u) e = fine_small e

-- a placed block, opened
abbrev pub opened_at : List ℕ → List BlockAt → List ℕ → ℕ → List ℕ
opened_at d bs xs k = opened_of d bs (placement_at xs k).block

-- the core and the n arms of an assembly: all joined to the first placement, at these atoms
pub record ArmsOf (d : List ℕ) (bs : List BlockAt) (xs atoms : List ℕ) (n : ℕ) (core : Core) (arms : List Arm) : Type 0 where
  pub few : n ≤ most_arms
  pub count : placement_count xs ≡ suc n
  pub first : (k : ℕ) → k < n → (placement_at xs (suc k)).parent ≡ 1
  pub kept : core ≡ core_in (opened_at d bs xs 0) atoms
  pub sites : (k : ℕ) → k < n → get_or atoms k 0 ≡ (placement_at xs (suc k)).site
  pub ends : (k : ℕ) → k < n → get_or arms k no_arm ≡ arm_in (opened_at d bs xs (suc k)) (placement_at xs (suc k)).own

module _ {d : List ℕ} {bs : List BlockAt} {xs atoms : List ℕ} {n : ℕ} {core : Core} {arms : List Arm} (t : ArmsOf d bs xs atoms n core arms) where
  port : (k : ℕ) → k < most_arms → get_or core.ends k no_port ≡ port_in (opened_at d bs xs 0) atoms (get_or atoms k 0)
  unfolding core_in
  port k h = ap (λ (c : Core). get_or c.ends k no_port) t.kept ∙ get_or-table most_arms (λ i. port_in (opened_at d bs xs 0) atoms (get_or atoms i 0)) k no_port h

  keeps : Keeps (opened_at d bs xs) (join_on (placement_at xs)) n core arms
  unfolding core_in port_in ports_near join_of
  keeps = record {
    few = t.few;
    small = λ k. let b = find bs (placement_at xs k).block in opened_small b.number b.atoms (bond_bytes d b);
    first = t.first;
    six = ap (λ (c : Core). c.six) t.kept;
    sights = λ k h. ap (λ (x : Port). x.counts) (port k (omega (arith, t.few))) ∙ ap (vertex_at (opened_at d bs xs 0)) (t.sites k h);
    near = λ m k i h.
        ap (λ (x : Port). get_or x.near k 0) (port m (omega (arith, t.few)))
        ∙ get_or-table most_arms (λ j. far_at (opened_at d bs xs 0) (get_or atoms m 0) (get_or atoms j 0)) k 0 (omega (arith, t.few))
        ∙ ap₂ (far_at (opened_at d bs xs 0)) (t.sites m i) (t.sites k h);
    ends = t.ends;
  }

  -- THE FIELDS OF THE MOLECULE WRITTEN OUT, where the assembly is not refused and its blocks are not
  pub arms-written : ((x : ℕ) → used bs x ≡ true → block_reply (find bs x).atoms (bond_bytes d (find bs x)) ≡ read tt) → assembly_reply (book_of d bs) xs ≡ read tt
      → six_of core arms n ≡ indices_of (written (graph_on (book_of d bs) (placement_at xs)) (join_on (placement_at xs)) (placement_count xs - 1))
  unfolding book_of
  arms-written fine e =
      let w = whole (book_of d bs) xs e in
      let last : placement_count xs - 1 ≡ n = omega (arith, t.count) in
      let a = assembled (book_of d bs) xs (λ x u. molecule (find bs x).atoms (bond_bytes d (find bs x)) (fine x u)) w in
      let has : ((k : ℕ) → k ≤ n → used bs (placement_at xs k).block ≡ true) = λ k h. w.right.has k (omega (arith, t.count)) in
      six_composed keeps n (omega arith)
      ∙ rw last (fields_written n (rw last at a) (λ k h. let b = find bs (placement_at xs k).block in opened_told b.number b.atoms (bond_bytes d b) (fine (placement_at xs k).block (has k h))))
