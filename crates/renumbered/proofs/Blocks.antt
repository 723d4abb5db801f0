-- Laws. Two blocks listed another way: the same replies, and what is told of a bond follows the bond. Assumes nothing.
use Rattle.std.specs.Prelude.{ℕ, suc, ◌+◌, ◌*◌, ◌/◌, ◌<◌, true, List, [], ◌∷◌, ◌++◌, map, ◌↔◌, ◌≡◌, length, get_or, drop}
use Rattle.std.proofs.Common.{⊎_elim, ◌∙◌, ap, ap₂, arith}
use Rattle.std.proofs.Math.Path.{sym}
use Rattle.std.proofs.lemmas.List.{length-map}
use Rattle.std.proofs.Math.ListN.{get_or-append}
use Rattle.graph.specs.Graph.{Graph, Bond, bond, Molecule, joins, any_joins, bonded, is_at}
use Rattle.graph.specs.Bonds.{one_of, any_none}
use Rattle.graph.specs.Paths.{share}
use Rattle.graph.specs.Notions.{Plain}
use Rattle.reply.specs.Read.{Read, refused, read, refusal}
use Rattle.block.specs.Block.{most_atoms, bonds_of, graph_of}
use Rattle.block.specs.Rows.{table}
use Rattle.block.specs.Index.{indices_reply, pairs_of, pairs_reply}
use Rattle.block.specs.Told.{molecule}
use Rattle.block.specs.Numbered.{bond_at, bonds_length, mapped_at, bond_listed, bond_within}
use Rattle.block.specs.declared.Indices.{Indices}
use Rattle.shares.specs.Reply.{shares_reply, shares_entries}
use Rattle.shares.specs.Reply as shares
use Rattle.shares.proofs.Blocks.{plain}
use Rattle.szeged.specs.Szeged.{szeged_term}
use Rattle.szeged.specs.Reply.{szeged_reply, szeged_entries}
use Rattle.szeged.specs.Reply as szeged
use Rattle.balaban.specs.Balaban.{balaban_reply}
use Rattle.renumbered.specs.Renumbered.{Partners, RelistedBlocks}
use Rattle.renumbered.proofs.Distances.{same_total, same_indices}
use Rattle.renumbered.proofs.BondsLaws.{follows, same_bonds, alike_szeged, same_szeged, same_balaban}
use Rattle.renumbered.proofs.Shares.{same_denominator, same_share}

-- a pair that a list of bonds joins is joined by the bond at some place
place_of : (xs : List ℕ) (u v : ℕ) → any_joins (bonds_of xs) u v ≡ true → (k : ℕ) × (k < length xs / 2) × (joins (bond_at xs k) u v ≡ true)
unfolding bonds_of any_joins
place_of [] u v e = absurd (any_none u v e)
place_of (a ∷ []) u v e = absurd (any_none u v e)
place_of (a ∷ (b ∷ xs)) u v e = ⊎_elim (λ q. (0, omega arith, q)) (λ q. later (place_of xs u v q)) (one_of (joins (bond a b) u v) (any_joins (bonds_of xs) u v) e)
  where
    later : (k : ℕ) × (k < length xs / 2) × (joins (bond_at xs k) u v ≡ true)
        → (k : ℕ) × (k < length (a ∷ (b ∷ xs)) / 2) × (joins (bond_at (a ∷ (b ∷ xs)) k) u v ≡ true)
    later (k, h, j) =
        let p : 2 * suc k ≡ suc (suc (2 * k)) = omega arith in
        let q : 2 * suc k + 1 ≡ suc (suc (2 * k + 1)) = omega arith in
        (suc k, omega arith, ap₂ (λ (x y : ℕ). joins (bond (get_or (a ∷ (b ∷ xs)) x 0) (get_or (a ∷ (b ∷ xs)) y 0)) u v) p q ∙ j)

-- what f gives for bond k stands at place k of what it gives for all bonds, whatever follows
entry : (f : Bond → ℕ) (xs more : List ℕ) (k : ℕ) → k < length xs / 2 → get_or (map f (bonds_of xs) ++ more) k 0 ≡ f (bond_at xs k)
entry f xs more k l = get_or-append (map f (bonds_of xs)) more 0 k (omega (arith, length-map (bonds_of xs) f, bonds_length xs)) ∙ mapped_at f xs k l

module _ {n m : ℕ} {xs ys : List ℕ} (r : RelistedBlocks n xs m ys) where
  abbrev g : Graph
  g = graph_of n xs

  abbrev h : Graph
  h = graph_of m ys

  first : Molecule g
  first = molecule n xs r.one

  second : Molecule h
  second = molecule m ys r.two

  plain_first : Plain n (bonds_of xs)
  plain_first = plain n xs r.one

  plain_second : Plain m (bonds_of ys)
  plain_second = plain m ys r.two

  -- W, even part, odd part and polarity, and the number of pairs at each distance
  pub block_indices : indices_reply n xs ≡ indices_reply m ys
  unfolding indices_reply
  block_indices = rw (r.one, r.two) (ap {B = Read Indices} read (same_indices first second r.renumbered))

  pub block_pairs : pairs_reply n xs ≡ pairs_reply m ys
  unfolding pairs_reply pairs_of
  block_pairs = rw (r.one, r.two) (λ i. read (table most_atoms (λ k. same_total first second r.renumbered (is_at k) i)))

  -- Balaban's J
  pub block_balaban : balaban_reply n xs ≡ balaban_reply m ys
  unfolding balaban_reply
  block_balaban = rw (r.one, r.two, same_balaban first second r.renumbered plain_first plain_second 1)

  -- the Szeged index, or 9
  pub block_szeged : (room : ℕ) → szeged_reply n xs room ≡ szeged_reply m ys room
  unfolding szeged_reply
  block_szeged room = rw (r.one, r.two, same_bonds plain_first plain_second r.renumbered, same_szeged first second r.renumbered plain_first plain_second)

  -- D, or a refusal: 9, 8
  pub block_shares : (room : ℕ) → shares_reply n xs room ≡ shares_reply m ys room
  unfolding shares_reply
  block_shares room = rw (r.one, r.two, same_bonds plain_first plain_second r.renumbered, same_denominator first second r.renumbered)

  pub eight_both : (room : ℕ) → (shares_reply n xs room ≡ refused (refusal 8 0)) ↔ (shares_reply m ys room ≡ refused (refusal 8 0))
  eight_both room = (λ e. sym (block_shares room) ∙ e, λ e. block_shares room ∙ e)

  -- each bond has a partner
  pub partner : (k : ℕ) → k < length xs / 2 → (l : ℕ) × (l < length ys / 2) × Partners r.renumbered (bond_at xs k) (bond_at ys l)
  partner k l =
      let p = r.renumbered.numbers in
      place_of ys (p.to (bond_at xs k).one) (p.to (bond_at xs k).two)
      (unfold bonded in r.renumbered.carried (bond_at xs k).one (bond_at xs k).two (unfold bonded in bond_listed xs k l))

  -- and both have the same contribution and the same Szeged term: bond k of the one and bond l of the other, from 0
  module _ {k l : ℕ} (hk : k < length xs / 2) (hl : l < length ys / 2) (j : Partners r.renumbered (bond_at xs k) (bond_at ys l)) where
    bond_share : share g (bond_at xs k) ≡ share h (bond_at ys l)
    bond_share = let (a, b) = bond_within n xs r.one k hk in same_share first second r.renumbered (bond_at xs k) (bond_at ys l) a b j

    bond_term : szeged_term g (bond_at xs k) ≡ szeged_term h (bond_at ys l)
    bond_term = let (a, b) = bond_within n xs r.one k hk in follows r.renumbered (alike_szeged first second r.renumbered) (bond_at xs k) (bond_at ys l) a b j

    -- as they are written into the lent entries
    pub share_follows : (out more : List ℕ) {d c : ℕ} → shares_reply n xs (length out) ≡ read d → shares_reply m ys (length more) ≡ read c
        → get_or (shares_entries n xs out) k 0 ≡ get_or (shares_entries m ys more) l 0
    unfolding shares.filled_shares
    share_follows out more e f =
        rw (e, f) (entry (share g) xs (drop (length (bonds_of xs)) out) k hk ∙ bond_share ∙ sym (entry (share h) ys (drop (length (bonds_of ys)) more) l hl))

    pub term_follows : (out more : List ℕ) {s c : ℕ} → szeged_reply n xs (length out) ≡ read s → szeged_reply m ys (length more) ≡ read c
        → get_or (szeged_entries n xs out) k 0 ≡ get_or (szeged_entries m ys more) l 0
    unfolding szeged.filled_terms
    term_follows out more e f =
        rw (e, f) (entry (szeged_term g) xs (drop (length (bonds_of xs)) out) k hk ∙ bond_term ∙ sym (entry (szeged_term h) ys (drop (length (bonds_of ys)) more) l hl))
