-- Laws. Every product of a library that is not refused is an assembly that is not refused, whatever the number of its sites. Assumes nothing.
use Rattle.std.specs.Prelude.{ℕ, zero, suc, ◌+◌, ◌*◌, ◌-◌, ◌^◌, ◌≤◌, ◌<◌, Bool, ◌||◌, ◌≡◌, refl, eqb}
use Rattle.std.proofs.Math.Bool.{true, false}
use Rattle.std.proofs.Common.{true≢false, ◌∙◌, le_trans, mul-le-mul, pow-suc, lit<, length-append, get_or-append-add}
use mathlib.Core.List.{List, [], ◌∷◌, ◌++◌}
use Rattle.std.proofs.Math.Logic.{⊎_elim}
use Rattle.std.proofs.Math.Path.{sym, ap}
use Rattle.std.proofs.Math.Nat.{le-suc_iff, pow-le-pow_right}
use native.Mathlib.Omega.{arith}
use borrow.Author.Tests.{eq-eqb, ne_eqb, le-ltb}
use Rattle.std.proofs.Math.ListN.{length, get_or-append}
use Rattle.graph.specs.Graph.{Graph, degree}
use Rattle.reply.specs.Read.{read, is_outside}
use Rattle.records.specs.Bytes.{byte_at, little, le16}
use Rattle.records.specs.Longer.{little_same, little_behind}
use Rattle.records.specs.Records.{payload_at}
use Rattle.assembly.specs.Book.{Book, book_of}
use Rattle.assembly.specs.Degrees.{joins_zero, joins-suc}
use Rattle.assembly.specs.Placements.{most_placements, placement_count, placement_at, join_of, join_ends, atom_site, shelf_of, joins_on, is_full, join_on, graph_on, sites_on, fault, placements_reply, assembly_reply}
use Rattle.assembly.specs.declared.Placement.{Placement}
use Rattle.assembly.proofs.Faults.{first_fine, joins_well, has_parent, is_first, is_later, faultless, none_left, count_within}
use Rattle.catalogue.specs.Library.{most_sites, most_candidates, core_number, candidate_number, candidate_atom, candidate_at, is_taken, is_full_in, candidate_fault, Library, library_reply}
use Rattle.catalogue.specs.Products.{join_bytes, placed_bytes, product_bytes, products, choice_at, assembly_at}
use Rattle.catalogue.proofs.Choices.{IsChoice, is_choice}
use Rattle.catalogue.proofs.Sound.{joins, SitesApart, CandidatesListed, whole}
use Rattle.catalogue.specs.declared.Site.{Site}

-- the placement at an index, in bytes without the count before them
abbrev pub placed_in : List ℕ → ℕ → Placement
placed_in ys k = record { block = le16 ys (6 * k); parent = le16 ys (6 * k + 2); site = byte_at ys (6 * k + 4); own = byte_at ys (6 * k + 5) }

-- a placement joined to the first
abbrev pub joined : ℕ → ℕ → ℕ → Placement
joined block site own = record { block = block; parent = 1; site = site; own = own }

same_placement : {a b c d p q r s : ℕ} → a ≡ p → b ≡ q → c ≡ r → d ≡ s
    → ◌≡◌ {A = Placement} (record { block = a; parent = b; site = c; own = d }) (record { block = p; parent = q; site = r; own = s })
same_placement e f g h = rw (e, f, g, h)

pub behind_count : (a b : ℕ) (ys : List ℕ) (k : ℕ) → placement_at (a ∷ b ∷ ys) k ≡ placed_in ys k
unfolding placement_at
behind_count a b ys k =
    let zs = a ∷ b ∷ ys in
    let f : 2 + 6 * k + 2 ≡ 2 + (6 * k + 2) = omega arith in
    let g : 2 + 6 * k + 4 ≡ 2 + (6 * k + 4) = omega arith in
    let h : 2 + 6 * k + 5 ≡ 2 + (6 * k + 5) = omega arith in
    same_placement
    (little_behind (a ∷ b ∷ []) ys 2 (6 * k))
    (ap (le16 zs) f ∙ little_behind (a ∷ b ∷ []) ys 2 (6 * k + 2))
    (ap (byte_at zs) g ∙ get_or-append-add (a ∷ b ∷ []) ys (6 * k + 4) 0)
    (ap (byte_at zs) h ∙ get_or-append-add (a ∷ b ∷ []) ys (6 * k + 5) 0)

pub placed_before : (ys zs : List ℕ) (k : ℕ) → 6 * k + 6 ≤ length ys → placed_in (ys ++ zs) k ≡ placed_in ys k
placed_before ys zs k h =
    same_placement
    (little_same ys zs 2 (6 * k) (omega arith))
    (little_same ys zs 2 (6 * k + 2) (omega arith))
    (get_or-append ys zs 0 (6 * k + 4) (omega arith))
    (get_or-append ys zs 0 (6 * k + 5) (omega arith))

placed_behind : (ys zs : List ℕ) (k : ℕ) → 6 * k ≡ length ys → placed_in (ys ++ zs) k ≡ placed_in zs 0
placed_behind ys zs k e =
    let f : 6 * k ≡ length ys + 0 = omega arith in
    let g : 6 * k + 2 ≡ length ys + 2 = omega arith in
    let h : 6 * k + 4 ≡ length ys + 4 = omega arith in
    let i : 6 * k + 5 ≡ length ys + 5 = omega arith in
    same_placement
    (ap (le16 (ys ++ zs)) f ∙ little_behind ys zs 2 0)
    (ap (le16 (ys ++ zs)) g ∙ little_behind ys zs 2 2)
    (ap (byte_at (ys ++ zs)) h ∙ get_or-append-add ys zs 4 0)
    (ap (byte_at (ys ++ zs)) i ∙ get_or-append-add ys zs 5 0)

join_said : (xs : List ℕ) (s : Site) (j : ℕ) → placed_in (join_bytes xs s j) 0 ≡ joined (candidate_number xs (candidate_at s j)) s.atom (candidate_atom xs (candidate_at s j))
unfolding little
join_said xs s j = refl

pub length_placed : (xs : List ℕ) (ss : List Site) (js : List ℕ) → IsChoice ss js → length (placed_bytes xs ss js) ≡ 6 * suc (length ss)
unfolding IsChoice placed_bytes
length_placed xs [] js c = refl
length_placed xs (s ∷ ss) [] c = absurd c
length_placed xs (s ∷ ss) (j ∷ js) c = length-append (placed_bytes xs ss js) (join_bytes xs s j) ∙ omega (arith, length_placed xs ss js c.1)

-- the first placement is the core
pub core_said : (xs : List ℕ) (ss : List Site) (js : List ℕ) → IsChoice ss js → placed_in (placed_bytes xs ss js) 0 ≡ record { block = core_number xs; parent = 0; site = 0; own = 0 }
unfolding IsChoice placed_bytes little
core_said xs [] js c = refl
core_said xs (s ∷ ss) [] c = absurd c
core_said xs (s ∷ ss) (j ∷ js) c = placed_before (placed_bytes xs ss js) (join_bytes xs s j) 0 (omega (arith, length_placed xs ss js c.1)) ∙ core_said xs ss js c.1

taken_first : (s : Site) (ss : List Site) → is_taken (s ∷ ss) s.atom ≡ true
unfolding is_taken
taken_first s ss = rw (eq-eqb s.atom s.atom refl)

taken_later : (s : Site) (ss : List Site) (a : ℕ) → is_taken ss a ≡ true → is_taken (s ∷ ss) a ≡ true
unfolding is_taken
taken_later s ss a e = go (eqb s.atom a)
  where
    go : (t : Bool) → (t || is_taken ss a) ≡ true
    go true = refl
    go false = e

-- no two of them at one atom
not_taken : (ss : List Site) (a b : ℕ) → is_taken ss a ≡ true → is_taken ss b ≡ false → a ≡ b → ⊥
not_taken ss a b t f e = true≢false (sym t ∙ ap (is_taken ss) e ∙ f)

module _ (book : Book) (xs : List ℕ) where
  abbrev pub core : Graph
  core = book.graph (core_number xs)

  -- the placement at an index is a candidate that may stand at its site
  pub record GoodPlacement (ss : List Site) (ys : List ℕ) (k : ℕ) : Type 0 where
    pub atom : ℕ
    pub place : ℕ
    pub said : placed_in ys k ≡ joined (candidate_number xs place) atom (candidate_atom xs place)
    pub fine : candidate_fault book core xs atom place ≡ 0
    pub inside : is_outside core.atoms atom ≡ false
    pub taken : is_taken ss atom ≡ true

  good_later : (s : Site) (ss : List Site) (ys zs : List ℕ) (k : ℕ) → 6 * k + 6 ≤ length ys → GoodPlacement ss ys k → GoodPlacement (s ∷ ss) (ys ++ zs) k
  good_later s ss ys zs k h g = record {
    atom = g.atom;
    place = g.place;
    said = placed_before ys zs k h ∙ g.said;
    fine = g.fine;
    inside = g.inside;
    taken = taken_later s ss g.atom g.taken;
  }

  pub last_said : (s : Site) (ss : List Site) (j : ℕ) (js : List ℕ) (k : ℕ) → IsChoice ss js → k ≡ suc (length ss)
      → placed_in (placed_bytes xs (s ∷ ss) (j ∷ js)) k ≡ joined (candidate_number xs (candidate_at s j)) s.atom (candidate_atom xs (candidate_at s j))
  unfolding placed_bytes
  last_said s ss j js k c e = placed_behind (placed_bytes xs ss js) (join_bytes xs s j) k (omega (arith, length_placed xs ss js c)) ∙ join_said xs s j

  pub good : (ss : List Site) (js : List ℕ) → SitesApart book core xs ss → IsChoice ss js → (k : ℕ) → 1 ≤ k → k ≤ length ss → GoodPlacement ss (placed_bytes xs ss js) k
  unfolding SitesApart IsChoice placed_bytes
  good [] js h c k l m = absurd (omega arith)
  good (s ∷ ss) [] h c k l m = absurd c
  good (s ∷ ss) (j ∷ js) h c k l m =
      ⊎_elim
      (λ n. good_later s ss (placed_bytes xs ss js) (join_bytes xs s j) k (omega (arith, length_placed xs ss js c.1)) (good ss js h.2 c.1 k l n))
      (λ n. record {
        atom = s.atom;
        place = candidate_at s j;
        said = last_said s ss j js k c.1 n;
        fine = h.0.candidates j c.0;
        inside = h.0.inside;
        taken = taken_first s ss;
      })
      (le-suc_iff.0 m)

  fresh : (ss : List Site) (js : List ℕ) → SitesApart book core xs ss → IsChoice ss js → (i k : ℕ) → 1 ≤ i → i < k → k ≤ length ss
      → (placed_in (placed_bytes xs ss js) i).site ≡ (placed_in (placed_bytes xs ss js) k).site → ⊥
  unfolding SitesApart IsChoice placed_bytes
  fresh [] js h c i k l m n e = absurd (omega arith)
  fresh (s ∷ ss) [] h c i k l m n e = absurd c
  fresh (s ∷ ss) (j ∷ js) h c i k l m n e =
      let ys = placed_bytes xs ss js in
      let zs = join_bytes xs s j in
      let long = length_placed xs ss js c.1 in
      let before : ((x : ℕ) → x ≤ length ss → (placed_in (ys ++ zs) x).site ≡ (placed_in ys x).site) = λ x y. ap (λ (q : Placement). q.site) (placed_before ys zs x (omega (arith, long))) in
      ⊎_elim
      (λ o. fresh ss js h.2 c.1 i k l m o (sym (before i (omega arith)) ∙ e ∙ before k o))
      (λ o.
      let g = good ss js h.2 c.1 i l (omega arith) in
      let a : (placed_in ys i).site ≡ g.atom = ap (λ (q : Placement). q.site) g.said in
      let b : (placed_in (ys ++ zs) k).site ≡ s.atom = ap (λ (q : Placement). q.site) (last_said s ss j js k c.1 o) in
      not_taken ss g.atom s.atom g.taken h.1 (sym a ∙ sym (before i (omega arith)) ∙ e ∙ b))
      (le-suc_iff.0 n)

  -- the product of a choice, written out
  module _ (ss : List Site) (js : List ℕ) (listed : CandidatesListed book xs ss) (c : IsChoice ss js) where
    abbrev placed : ℕ → Placement
    placed = placement_at (product_bytes xs ss js)

    placed_is : (k : ℕ) → placed k ≡ placed_in (placed_bytes xs ss js) k
    unfolding product_bytes
    placed_is k = behind_count (suc (length ss)) 0 (placed_bytes xs ss js) k

    at : (k : ℕ) → 1 ≤ k → k ≤ length ss → GoodPlacement ss (placed_bytes xs ss js) k
    at k l m = good ss js listed.sites c k l m

    first_is : placed 0 ≡ record { block = core_number xs; parent = 0; site = 0; own = 0 }
    first_is = placed_is 0 ∙ core_said xs ss js c

    later_is : (k : ℕ) (l : 1 ≤ k) (m : k ≤ length ss) → let g = at k l m in placed k ≡ joined (candidate_number xs g.place) g.atom (candidate_atom xs g.place)
    later_is k l m = placed_is k ∙ (at k l m).said

    parent_is : (k : ℕ) → 1 ≤ k → k ≤ length ss → (placed k).parent ≡ 1
    parent_is k l m = ap (λ (q : Placement). q.parent) (later_is k l m)

    -- joins that have no end at an atom
    no_ends : (last p a : ℕ) → ((i : ℕ) → 1 ≤ i → i ≤ last → join_ends (join_on placed i) (suc i) p a ≡ 0) → joins_on (join_on placed) last p a ≡ 0
    no_ends zero p a h = joins_zero (join_on placed) p a
    no_ends (suc m) p a h =
        joins-suc (join_on placed) m p a ∙ omega (arith, no_ends m p a (λ i l n. h i l (omega arith)), h (suc m) (omega arith) (omega arith))

    -- no earlier join is at a core's atom that a later one takes
    site_free : (k : ℕ) → 1 ≤ k → k ≤ length ss → joins_on (join_on placed) (k - 1) 1 (placed k).site ≡ 0
    unfolding join_ends join_of
    site_free k l m = no_ends (k - 1) 1 (placed k).site (λ i p q.
        let other : ((placed i).site ≡ (placed k).site → ⊥) = λ e. fresh ss js listed.sites c i k p (omega arith) m
        (sym (ap (λ (x : Placement). x.site) (placed_is i)) ∙ e ∙ ap (λ (x : Placement). x.site) (placed_is k)) in
        rw (eq-eqb (placed i).parent 1 (parent_is i p (omega arith)), ne_eqb (placed i).site (placed k).site other, ne_eqb (suc i) 1 (omega arith)))

    not_full : (g : Graph) (k p a : ℕ) → joins_on (join_on placed) (k - 1) p a ≡ 0 → is_full_in g a ≡ false → is_full (degree g.bonds a) (join_on placed) k p a ≡ false
    not_full g k p a z e =
        let n : degree g.bonds a + joins_on (join_on placed) (k - 1) p a ≡ degree g.bonds a = omega (arith, z) in
        rw n e

    -- placement 1 is the core
    first_well : fault (shelf_of book) placed 0 ≡ 0
    first_well =
        let q = first_is in
        let has : book.has (placed 0).block ≡ true = ap (λ (x : Placement). book.has x.block) q ∙ listed.has in
        is_first (shelf_of book) placed 0 has refl
        ∙ first_fine (placed 0) (ap (λ (x : Placement). x.parent) q) (ap (λ (x : Placement). x.site) q) (ap (λ (x : Placement). x.own) q)

    -- the parent's block is the core
    onto_core : (k : ℕ) → 1 ≤ k → k ≤ length ss → graph_on book placed ((placed k).parent - 1) ≡ core
    onto_core k l m =
        let z : (placed k).parent - 1 ≡ 0 = omega (arith, parent_is k l m) in
        ap (λ (i : ℕ). book.graph (placed i).block) z ∙ ap (λ (x : Placement). book.graph x.block) first_is

    -- each later one is a candidate at its site
    later_well : (k : ℕ) → 1 ≤ k → k ≤ length ss → fault (shelf_of book) placed k ≡ 0
    unfolding join_of
    later_well k l m =
        let g = at k l m in
        let q = later_is k l m in
        let j = joins book core xs g.atom g.place g.fine in
        let onto = onto_core k l m in
        let has : book.has (placed k).block ≡ true = ap (λ (x : Placement). book.has x.block) q ∙ j.has in
        let parent : is_outside k (placed k).parent ≡ false = rw (parent_is k l m, le-ltb k 1 l) in
        let site : is_outside (graph_on book placed ((placed k).parent - 1)).atoms (placed k).site ≡ false =
        ap (λ (x : Graph). is_outside x.atoms (placed k).site) onto ∙ ap (λ (x : Placement). is_outside core.atoms x.site) q ∙ g.inside in
        let own : is_outside (graph_on book placed k).atoms (placed k).own ≡ false = ap (λ (x : Placement). is_outside (book.graph x.block).atoms x.own) q ∙ j.own in
        let full : is_full_in (graph_on book placed ((placed k).parent - 1)) (placed k).site ≡ false =
        ap (λ (x : Graph). is_full_in x (placed k).site) onto ∙ ap (λ (x : Placement). is_full_in core x.site) q ∙ j.room in
        let own_full : is_full_in (graph_on book placed k) (placed k).own ≡ false = ap (λ (x : Placement). is_full_in (book.graph x.block) x.own) q ∙ j.own_room in
        let free : joins_on (join_on placed) (k - 1) (placed k).parent (placed k).site ≡ 0 =
        ap (λ (p : ℕ). joins_on (join_on placed) (k - 1) p (placed k).site) (parent_is k l m) ∙ site_free k l m in
        is_later (shelf_of book) placed k has (omega arith)
        ∙ has_parent (shelf_of book) placed k parent
        ∙ joins_well (atom_site (sites_on (shelf_of book) placed ((placed k).parent - 1)) (placed k).site) (atom_site (sites_on (shelf_of book) placed k) (placed k).own) (join_on placed) k site own
        (not_full (graph_on book placed ((placed k).parent - 1)) k (placed k).parent (placed k).site free full)
        own_full

    well : (k : ℕ) → k ≤ length ss → fault (shelf_of book) placed k ≡ 0
    well zero h = first_well
    well (suc k) h = later_well (suc k) (omega arith) h

    from : (left k : ℕ) → k + left ≤ suc (length ss) → placements_reply (fault (shelf_of book) placed) k left ≡ read tt
    from zero k h = none_left (fault (shelf_of book) placed) k
    from (suc left) k h = faultless (fault (shelf_of book) placed) k left (well k (omega arith)) ∙ from left (suc k) (omega arith)

    -- it has one placement more than there are sites, and is not refused
    pub count_is : placement_count (product_bytes xs ss js) ≡ suc (length ss)
    unfolding product_bytes little
    count_is = omega arith

    pub choice_fine : assembly_reply book (product_bytes xs ss js) ≡ read tt
    choice_fine =
        let n = count_is in
        let few : is_outside most_placements (placement_count (product_bytes xs ss js)) ≡ false = rw (n, ne_eqb (suc (length ss)) 0 (omega arith), le-ltb most_placements (suc (length ss)) (omega (arith, listed.few))) in
        count_within book (product_bytes xs ss js) few ∙ ap (placements_reply (fault (shelf_of book) placed) 0) n ∙ from (suc (length ss)) 0 (omega arith)

-- Where a library is not refused, the product at each position, written out as an assembly over the deck's blocks, is not refused.
pub product_fine : (d : List ℕ) (l : Library) (position : ℕ) → library_reply d ≡ read l → position < products l.sites → assembly_reply (book_of d l.blocks) (assembly_at d l position) ≡ read tt
product_fine d l position e h = choice_fine (book_of d l.blocks) (payload_at d l.at) l.sites (choice_at l.sites position) (whole d l e).listed (is_choice l.sites position h)

some_products : (book : Book) (g : Graph) (xs : List ℕ) (ss : List Site) → SitesApart book g xs ss → (1 ≤ products ss) × (products ss ≤ most_candidates ^ length ss)
unfolding SitesApart products
some_products book g xs [] h = (omega arith, omega arith)
some_products book g xs (s ∷ ss) h =
    let (low, high) = some_products book g xs ss h.2 in
    let m = h.0.many in
    rw pow-suc (grows (products ss) s.many (most_candidates ^ length ss) low high m.low m.high)
  where
    grows : (p m n : ℕ) → 1 ≤ p → p ≤ n → 1 ≤ m → m ≤ most_candidates → (1 ≤ p * m) × (p * m ≤ n * most_candidates)
    grows p m n a b c e = (omega (arith, mul-le-mul a c), mul-le-mul b e)

-- A library has 1 to 4,096 products.
pub few_products : (d : List ℕ) (l : Library) → library_reply d ≡ read l → (1 ≤ products l.sites) × (products l.sites ≤ most_candidates ^ most_sites)
few_products d l e =
    let w = (whole d l e).listed in
    let (low, high) = some_products _ _ _ l.sites w.sites in
    (low, le_trans high (pow-le-pow_right {n = most_candidates} (lit< tt) {i = length l.sites} {j = most_sites} w.few.high))
