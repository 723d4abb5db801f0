-- What is seen from the ends of the joins is stored, and what is counted at a join is kept. Assumes nothing.
use Prim.Native.Nat.{ℕ, ◌+◌, ◌*◌, ◌-◌, ◌/◌, ◌%◌, ◌≤◌, ◌<◌}
use mathlib.Core.List.{List, []}
use mathlib.Core.Logic.{⊎_elim}
use mathlib.Core.Path.{◌≡◌, refl, sym, ◌∙◌, ap, subst}
use native.Mathlib.Decide.{ℕ_discrete, dec_lt}
use native.Mathlib.Nat.{eq-or-lt_of_le}
use native.Mathlib.Omega.{arith}
use borrow.Author.Tests.{eq-eqb, ne_eqb}
use lib.ListN.{length, get_or, set, length-set, replicate, length-replicate, get_or-replicate, get_or-eq_default}
use lib.Seq.{get_or-set_same, get_or-set_other}
use Rattle.graph.specs.Graph.{Within}
use Rattle.block.specs.Block.{most_atoms}
use Rattle.block.specs.Told.{within_inside}
use Rattle.sighted.specs.Sighted.{steps_in}
use Rattle.sighted.specs.declared.Seen.{Seen}
use Rattle.summary.specs.Layout.{seen_at}
use Rattle.shelf.specs.Shelf.{summary_at, place_of}
use Rattle.summaries.specs.Ready.{end_of, joins_in, seen_from, site_seen, ReadyShelf, between, sight_from, count_row, sight_of_row, core_at, StepsKnown, Counted, Kept}
use Rattle.summaries.specs.Ends.{home_of, IsEnd, Stepped, Right, Known, Put, Nowhere, Unmarked}
use Rattle.summaries.proofs.Ports.{earlier}

-- which placement has an end
pub own_home : (ls : List ℕ) (e : ℕ) → e % 2 ≡ 0 → home_of ls e ≡ e / 2 + 1
unfolding home_of
own_home ls e h = rw (eq-eqb (e % 2) 0 h)

pub site_home : (ls : List ℕ) (e : ℕ) → (e % 2 ≡ 0 → ⊥) → home_of ls e ≡ (joins_in ls (e / 2)).parent
unfolding home_of
site_home ls e h = rw (ne_eqb (e % 2) 0 h)

-- a row of steps to the atoms of one placement, filled up to index z
module _ {ls from old : List ℕ} {home : ℕ} where
  pub step_none : Stepped ls home from home old old
  step_none = record { here = λ z l h e. absurd (omega arith); kept = λ z n. refl }

  pub step_past : {row : List ℕ} (z : ℕ) → ((joins_in ls z).parent ≡ home → ⊥) → Stepped ls z from home old row → Stepped ls (z + 1) from home old row
  step_past z n s = record {
    here = λ y l h e. ⊎_elim (λ q. absurd (n (ap (λ (i : ℕ). (joins_in ls i).parent) (sym q) ∙ e))) (λ q. s.here y l q e) (eq-or-lt_of_le {n = y} {m = z} (omega arith));
    kept = s.kept;
  }

  pub step_put : {row : List ℕ} (z d : ℕ) → z < length row → (joins_in ls z).parent ≡ home → d ≡ steps_in from (joins_in ls z).site → Stepped ls z from home old row → Stepped ls (z + 1) from home old (set row z d)
  step_put {row} z d w p v s = record {
    here = λ y l h e. ⊎_elim (λ q. now y q) (λ q. get_or-set_other row z y d 0 (omega arith) ∙ s.here y l q e) (eq-or-lt_of_le {n = y} {m = z} (omega arith));
    kept = λ y n. get_or-set_other row z y d 0 (λ q. n (ap (λ (i : ℕ). (joins_in ls i).parent) q ∙ p)) ∙ s.kept y n;
  }
    where
      now : (y : ℕ) → y ≡ z → get_or (set row z d) y 0 ≡ steps_in from (joins_in ls y).site
      now y q = rw q (get_or-set_same row z d 0 w ∙ v)

pub steps_at : (row : List ℕ) (a : ℕ) → Within most_atoms a → steps_in row a ≡ get_or row (a - 1) 0
unfolding steps_in
steps_at row a w = rw (within_inside most_atoms a w)

-- rows of zeros
pub unmarked : (n : ℕ) → Unmarked (replicate n (replicate {A = ℕ} 8 0))
unmarked n = record { none = λ g. at g (dec_lt g n) }
  where
    at : (g : ℕ) → Dec (g < n) → get_or (get_or (replicate n (replicate {A = ℕ} 8 0)) g []) 3 0 ≡ 0
    at g (yes h) = rw (get_or-replicate n g (replicate {A = ℕ} 8 0) [] h)
    at g (no h) = rw (get_or-eq_default (replicate n (replicate {A = ℕ} 8 0)) [] {n = g} (omega (arith, length-replicate n (replicate {A = ℕ} 8 0))))

-- one end more that is another
pub nowhere_more : {ls : List ℕ} {x e : ℕ} (f : ℕ) → (end_of ls f ≡ x → ⊥) → Nowhere ls x e f → Nowhere ls x e (f + 1)
nowhere_more {ls} f n s = record { other = λ g l h q. ⊎_elim (λ m. n (ap (end_of ls) (sym m) ∙ q)) (λ m. s.other g l m q) (eq-or-lt_of_le {n = g} {m = f} (omega arith)) }

module _ {b ls : List ℕ} {count : ℕ} where
  -- nothing is put for an end that is another
  pub put_none : {x e : ℕ} {rs vs : List (List ℕ)} → Put b ls count x e e rs vs rs vs
  put_none = record { keeps = λ g w r. r; puts = λ g w l h q. absurd (omega arith); others = λ g q. refl }

  pub put_other : {x : ℕ} (e : ℕ) {rs vs : List (List ℕ)} → (end_of ls e ≡ x → ⊥) → Put b ls count x e (e + 1) rs vs rs vs
  put_other {x} e n = record { keeps = λ g w r. r; puts = λ g w l h q. let k : g ≡ e = omega arith in absurd (n (ap (end_of ls) (sym k) ∙ q)); others = λ g q. refl }

  -- one end more
  pub put_more : {x e : ℕ} (f : ℕ) {rs vs rt vt ru vu : List (List ℕ)} → Put b ls count x e f rs vs rt vt → Put b ls count x f (f + 1) rt vt ru vu → Put b ls count x e (f + 1) rs vs ru vu
  put_more f p q = record {
    keeps = λ g w r. q.keeps g w (p.keeps g w r);
    puts = λ g w l h k. ⊎_elim (λ m. q.puts g w (omega arith) h k) (λ m. q.keeps g w (p.puts g w l m k)) (eq-or-lt_of_le {n = g} {m = f} (omega arith));
    others = λ g n. q.others g n ∙ p.others g n;
  }

  pub known_none : {rs vs : List (List ℕ)} → Unmarked vs → Known b ls count rs vs 2
  known_none u = record { before = λ g w l. absurd (omega (arith, w.low)); marked = λ g w n. absurd (n (u.none g)) }

  -- an end that counts an atom is stored
  pub known_next : {rs vs : List (List ℕ)} (e : ℕ) → (get_or (get_or vs e []) 3 0 ≡ 0 → ⊥) → Known b ls count rs vs e → Known b ls count rs vs (e + 1)
  known_next {rs} {vs} e n k = record {
    before = λ g w l. ⊎_elim (λ q. k.marked g w (λ z. n (ap (λ (f : ℕ). get_or (get_or vs f []) 3 0) (sym q) ∙ z))) (λ q. k.before g w q) (eq-or-lt_of_le {n = g} {m = e} (omega arith));
    marked = k.marked;
  }

  -- and of one that was put for all that are the same, none of which stands from f on
  pub known_more : {rs vs rt vt : List (List ℕ)} (x e f : ℕ) → x ≡ end_of ls e → e < f → Nowhere ls (end_of ls e) f (2 * count) → Known b ls count rs vs e → Put b ls count x e f rs vs rt vt → Known b ls count rt vt (e + 1)
  known_more {rs} {vs} {rt} {vt} x e f h o s k p = record {
    before = λ g w l. ⊎_elim (λ q. p.puts g w (omega arith) (omega arith) (ap (end_of ls) q ∙ sym h)) (λ q. p.keeps g w (k.before g w q)) (eq-or-lt_of_le {n = g} {m = e} (omega arith));
    marked = λ g w n. at g w n (ℕ_discrete (end_of ls g) x) (dec_lt g e) (dec_lt g f);
  }
    where
      at : (g : ℕ) → IsEnd count g → (get_or (get_or vt g []) 3 0 ≡ 0 → ⊥) → Dec (end_of ls g ≡ x) → Dec (g < e) → Dec (g < f) → Right b ls count rt vt g
      at g w n d (yes l) m = p.keeps g w (k.before g w l)
      at g w n (yes q) (no l) (yes m) = p.puts g w (omega arith) m q
      at g w n (yes q) (no l) (no m) = absurd (s.other g (omega arith) w.high (q ∙ h))
      at g w n (no q) (no l) m = p.keeps g w (k.marked g w (λ z. n (ap (λ (r : List ℕ). get_or r 3 0) (p.others g q) ∙ z)))

  module _ (r : ReadyShelf b ls count) where
    -- the two ends of a join are in different placements
    apart_homes : (f g : ℕ) → IsEnd count f → f / 2 ≡ g / 2 → (f ≡ g → ⊥) → home_of ls f ≡ home_of ls g → ⊥
    apart_homes f g w h n e = go (ℕ_discrete (f % 2) 0) (ℕ_discrete (g % 2) 0)
      where
        up : Within (f / 2) (joins_in ls (f / 2)).parent
        up = earlier r {x = f / 2} (omega (arith, w.low, w.high))

        go : Dec (f % 2 ≡ 0) → Dec (g % 2 ≡ 0) → ⊥
        go (yes p) (yes q) = n (omega arith)
        go (no p) (no q) = n (omega arith)
        go (yes p) (no q) = let s : (joins_in ls (g / 2)).parent ≡ (joins_in ls (f / 2)).parent = ap (λ (k : ℕ). (joins_in ls k).parent) (sym h) in omega (arith, up, own_home ls f p, site_home ls g q, s, e)
        go (no p) (yes q) = omega (arith, up, site_home ls f p, own_home ls g q, e)

    pub has_home : (e : ℕ) → IsEnd count e → 1 ≤ home_of ls e
    has_home e w = go (ℕ_discrete (e % 2) 0)
      where
        go : Dec (e % 2 ≡ 0) → 1 ≤ home_of ls e
        go (yes p) = omega (arith, own_home ls e p)
        go (no p) = omega (arith, site_home ls e p, earlier r {x = e / 2} (omega (arith, w.low, w.high)))

    -- what is seen from an end is stored for it
    pub put_here : {rs vs : List (List ℕ)} (x f : ℕ) (row sight new : List ℕ) → IsEnd count f → count ≤ length rs → 2 * count ≤ length vs → row ≡ (seen_from b x).row → sight ≡ count_row (seen_from b x).counts
        → end_of ls f ≡ x → Stepped ls count row (home_of ls f) (get_or rs (f / 2) []) new → Put b ls count x f (f + 1) rs vs (set rs (f / 2) new) (set vs f sight)
    put_here {rs} {vs} x f row sight new w lr lv e c q s = record {
      keeps = λ g v k. at g v k (ℕ_discrete g f) (ℕ_discrete (g / 2) (f / 2));
      puts = λ g v l h k. let m : f ≡ g = omega arith in subst (Right b ls count (set rs (f / 2) new) (set vs f sight)) m here;
      others = λ g n. get_or-set_other vs f g sight [] (λ m. n (ap (end_of ls) m ∙ q));
    }
      where
        here : Right b ls count (set rs (f / 2) new) (set vs f sight) f
        here = record {
          counts = get_or-set_same vs f sight [] (omega (arith, w.high)) ∙ c ∙ ap (λ (y : ℕ). count_row (seen_from b y).counts) (sym q);
          steps = λ z l h p.
              ap (λ (a : List ℕ). get_or a z 0) (get_or-set_same rs (f / 2) new [] (omega (arith, w.high)))
              ∙ s.here z (omega (arith, earlier r {x = z} (omega (arith, l, h)), p)) h p
              ∙ ap (λ (a : List ℕ). steps_in a (joins_in ls z).site) (e ∙ ap (λ (y : ℕ). (seen_from b y).row) (sym q));
        }

        at : (g : ℕ) → IsEnd count g → Right b ls count rs vs g → Dec (g ≡ f) → Dec (g / 2 ≡ f / 2) → Right b ls count (set rs (f / 2) new) (set vs f sight) g
        at g v k (yes m) d = subst (Right b ls count (set rs (f / 2) new) (set vs f sight)) (sym m) here
        at g v k (no m) (yes d) = record {
          counts = get_or-set_other vs f g sight [] m ∙ k.counts;
          steps = λ z l h p.
              ap (λ (a : List ℕ). get_or a z 0) (ap (λ (i : ℕ). get_or (set rs (f / 2) new) i []) d ∙ get_or-set_same rs (f / 2) new [] (omega (arith, w.high)))
              ∙ s.kept z (λ j. apart_homes g f v d m (sym p ∙ j))
              ∙ ap (λ (i : ℕ). get_or (get_or rs i []) z 0) (sym d)
              ∙ k.steps z l h p;
        }
        at g v k (no m) (no d) = record {
          counts = get_or-set_other vs f g sight [] m ∙ k.counts;
          steps = λ z l h p. ap (λ (a : List ℕ). get_or a z 0) (get_or-set_other rs (f / 2) (g / 2) new [] d) ∙ k.steps z l h p;
        }

    -- what is seen from the atom that a placement is joined to
    site_seen_lem : (m : ℕ) → 1 ≤ m → m < count → seen_from b (end_of ls (2 * m + 1)) ≡ site_seen b ls m
    site_seen_lem m p q = ap (λ (x : ℕ). seen_at (summary_at b (place_of b x)) (joins_in ls m).site) (r.homes m p q)

    halves : (m : ℕ) → (2 * m / 2 ≡ m) × ((2 * m + 1) / 2 ≡ m)
    halves m = (omega arith, omega arith)

    pub steps_known : {rs vs : List (List ℕ)} → count ≤ length rs → Known b ls count rs vs (2 * count) → StepsKnown b ls rs count
    steps_known {rs} l k = record {
      long = l;
      own = λ m z p q s t h.
          ap (λ (i : ℕ). get_or (get_or rs i []) z 0) (sym (halves m).0)
          ∙ (k.before (2 * m) (omega arith) (omega arith)).steps z s t (h ∙ omega (arith, own_home ls (2 * m) (omega arith)));
      site = λ m z p q s t h.
          ap (λ (i : ℕ). get_or (get_or rs i []) z 0) (sym (halves m).1)
          ∙ (k.before (2 * m + 1) (omega arith) (omega arith)).steps z s t (h ∙ ap (λ (i : ℕ). (joins_in ls i).parent) (sym (halves m).1) ∙ sym (site_home ls (2 * m + 1) (omega arith)))
          ∙ ap (λ (v : Seen). steps_in v.row (joins_in ls z).site) (site_seen_lem m p q);
    }

    pub counts_known : {rs vs : List (List ℕ)} → 2 * count ≤ length vs → Known b ls count rs vs (2 * count) → Counted b ls vs count 1
    counts_known l k = record {
      long = l;
      own = λ m p q. ap sight_of_row (k.before (2 * m) (omega arith) (omega arith)).counts;
      made = λ m p q h. absurd (omega arith);
      waits = λ m p q h. ap sight_of_row (k.before (2 * m + 1) (omega arith) (omega arith)).counts ∙ ap (λ (v : Seen). v.counts) (site_seen_lem m p q);
    }

module _ (b ls : List ℕ) where
  -- one join more is made
  pub made_more : {vs : List (List ℕ)} (count k : ℕ) (row : List ℕ) → k < count → sight_of_row row ≡ sight_from b ls k k → Counted b ls vs count k → Counted b ls (set vs (2 * k + 1) row) count (k + 1)
  made_more {vs} count k row n here C = record {
    long = omega (arith, C.long, length-set vs (2 * k + 1) row);
    own = λ m p q. ap sight_of_row (get_or-set_other vs (2 * k + 1) (2 * m) row [] (omega arith)) ∙ C.own m p q;
    made = λ m p q h. ⊎_elim (λ e. now m e) (λ l. before m p q l) (eq-or-lt_of_le {n = m} {m = k} (omega arith));
    waits = λ m p q h. ap sight_of_row (get_or-set_other vs (2 * k + 1) (2 * m + 1) row [] (omega arith)) ∙ C.waits m p q (omega arith);
  }
    where
      now : (m : ℕ) → m ≡ k → core_at (set vs (2 * k + 1) row) (2 * m + 1) ≡ sight_from b ls m m
      now m e = rw e (ap sight_of_row (get_or-set_same vs (2 * k + 1) row [] (omega (arith, C.long))) ∙ here)

      before : (m : ℕ) → 1 ≤ m → m < count → m < k → core_at (set vs (2 * k + 1) row) (2 * m + 1) ≡ sight_from b ls m m
      before m p q l = ap sight_of_row (get_or-set_other vs (2 * k + 1) (2 * m + 1) row [] (omega arith)) ∙ C.made m p q l

  -- one distance more is kept
  pub kept_more : {row : List ℕ} (k m d : ℕ) → m < length row → d ≡ between b ls m k → Kept b ls row k m → Kept b ls (set row m d) k (m + 1)
  kept_more {row} k m d w e K = record { known = λ j l h. ⊎_elim (λ q. now j q) (λ q. get_or-set_other row m j d 0 (omega arith) ∙ K.known j l q) (eq-or-lt_of_le {n = j} {m = m} (omega arith)) }
    where
      now : (j : ℕ) → j ≡ m → get_or (set row m d) j 0 ≡ between b ls j k
      now j q = rw q (get_or-set_same row m d 0 w ∙ e)
