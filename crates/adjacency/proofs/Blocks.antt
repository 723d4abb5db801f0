-- Laws. The reply to a text's numbers, by the bytes of its bonds. Assumes nothing.
use Prim.Native.Nat.{ℕ, zero, suc, ◌+◌, ◌*◌, ◌/◌, ◌%◌, ◌<◌, ◌≤◌}
use Rattle.std.specs.Prelude.{Bool, ◌||◌, not, cond, ◌≡◌, refl, eqb, ltb, take, drop, set}
use Rattle.std.proofs.Math.Bool.{true, false}
use Rattle.std.proofs.Common.{true≢false, sym, ◌∙◌, ap, take_at}
use mathlib.Core.List.{List, [], ◌∷◌, ◌++◌}
use native.Mathlib.Omega.{arith}
use borrow.Author.Tests.{lt-ltb, le-ltb, eq-eqb, ne_eqb, eqb-true}
use Rattle.std.proofs.Math.ListN.{length}
use Rattle.std.proofs.lemmas.List.Edits.{sets, sets-eq}
use Rattle.graph.specs.Graph.{Graph, Bond, connected}
use Rattle.reply.specs.Read.{Read, refused, read, ◌then◌, refuse_if, refuse_for, refusal, is_outside}
use Rattle.reply.specs.Chain.{not_read}
use Rattle.block.specs.Block.{most_atoms, most_bytes, bonds_of, graph_of, bond_fault, bonds_reply}
use Rattle.reply.specs.declared.Refusal.{Refusal}
use Rattle.adjacency.specs.Neighbours.{TextNumber, text_number, numbers, fault_at, shape_from, steps, neighbours_reply, Step, described, bonded, bonds_in, steps_reply, bonds_length, bond_list_bytes, molecule, block_of, bytes_after}
use Rattle.adjacency.specs.Work.{until, any_high, put_at, FewBonds, Sized, kept_reply, label_refused, high_reply}
use Rattle.adjacency.specs.Judging.{sized}

-- bytes and bonds
pub bytes_length : (bs : List Bond) → length (bond_list_bytes bs) ≡ 2 * length bs
unfolding bond_list_bytes
bytes_length [] = refl
bytes_length (b ∷ bs) = omega (arith, bytes_length bs)

pub bytes_bonds : (bs : List Bond) → bonds_of (bond_list_bytes bs) ≡ bs
unfolding bond_list_bytes bonds_of
bytes_bonds [] = refl
bytes_bonds (b ∷ bs) = ap (λ (l : List Bond). b ∷ l) (bytes_bonds bs)

-- bytes that come in pairs are those of their bonds
bonds_bytes : (xs : List ℕ) → length xs % 2 ≡ 0 → bond_list_bytes (bonds_of xs) ≡ xs
unfolding bond_list_bytes bonds_of
bonds_bytes [] h = refl
bonds_bytes (a ∷ []) h = absurd (omega arith)
bonds_bytes (a ∷ b ∷ xs) h = ap (λ (l : List ℕ). a ∷ b ∷ l) (bonds_bytes xs (omega arith))

puts : (out : List ℕ) (p : ℕ) (bs : List Bond) → put_at out p bs ≡ sets out p (bond_list_bytes bs)
unfolding put_at bond_list_bytes
puts out p [] = refl
puts out p (b ∷ bs) =
    let one : p + 1 ≡ suc p = omega arith in
    let two : p + 2 ≡ suc (suc p) = omega arith in
    rw (one, two) (puts (set (set out p b.one) (suc p) b.two) (suc (suc p)) bs)

pub put_all : (out : List ℕ) (bs : List Bond) → bonds_length bs ≤ length out → put_at out 0 bs ≡ bond_list_bytes bs ++ drop (bonds_length bs) out
put_all out bs h =
    let l = bytes_length bs in
    let z : 0 + 2 * length bs ≡ 2 * length bs = omega arith in
    puts out 0 bs ∙ sets-eq (bond_list_bytes bs) out 0 (omega arith) ∙ rw (l, z)

pub front : (out : List ℕ) (bs : List Bond) (n : ℕ) → bonds_length bs ≤ length out → n ≡ bonds_length bs → take n (put_at out 0 bs) ≡ bond_list_bytes bs
front out bs n h e = rw (put_all out bs h) (take_at (bond_list_bytes bs) (drop (bonds_length bs) out) n (bytes_length bs ∙ sym e))

-- the bonds up to a label above n
pub until_few : (n : ℕ) (ss : List Step) → length (until n ss) ≤ length (bonds_in ss)
unfolding until bonds_in
until_few n [] = omega arith
until_few n (described x ∷ ss) = go (ltb n x) (until_few n ss)
  where
    go : (t : Bool) → length (until n ss) ≤ length (bonds_in ss) → length (cond t [] (until n ss)) ≤ length (bonds_in ss)
    go true l = omega arith
    go false l = l
until_few n (bonded b ∷ ss) = omega (arith, until_few n ss)

pub until_all : (n : ℕ) (ss : List Step) → any_high n ss ≡ false → until n ss ≡ bonds_in ss
unfolding until bonds_in any_high
until_all n [] e = refl
until_all n (described x ∷ ss) e = go (ltb n x) e (until_all n ss)
  where
    go : (t : Bool) → (t || any_high n ss) ≡ false → (any_high n ss ≡ false → until n ss ≡ bonds_in ss) → cond t [] (until n ss) ≡ bonds_in ss
    go true q more = absurd (true≢false q)
    go false q more = more q
until_all n (bonded b ∷ ss) e = ap (λ (l : List Bond). b ∷ l) (until_all n ss e)

-- label by label and bond by bond is the bonds, then the label
pub steps_until : (n : ℕ) (before : List Bond) (ss : List Step)
    → steps_reply n before ss ≡ (bonds_reply n before (until n ss) then λ _. refuse_if (any_high n ss) 3 (suc (length before + length (until n ss))))
unfolding steps_reply bonds_reply until any_high
steps_until n before [] = refl
steps_until n before (described x ∷ ss) = go (ltb n x) (steps_until n before ss)
  where
    go : (t : Bool) → steps_reply n before ss ≡ (bonds_reply n before (until n ss) then λ _. refuse_if (any_high n ss) 3 (suc (length before + length (until n ss))))
        → (refuse_if t 3 (suc (length before)) then λ _. steps_reply n before ss)
        ≡ (bonds_reply n before (cond t [] (until n ss)) then λ _. refuse_if (t || any_high n ss) 3 (suc (length before + length (cond t [] (until n ss)))))
    go true more = ap (λ (k : ℕ). refused (refusal 3 (suc k))) (omega arith)
    go false more = more
steps_until n before (bonded b ∷ ss) = go (bond_fault n before b) (steps_until n (b ∷ before) ss)
  where
    same : suc (length before) + length (until n ss) ≡ length before + suc (length (until n ss))
    same = omega arith

    go : (f : ℕ) → steps_reply n (b ∷ before) ss ≡ (bonds_reply n (b ∷ before) (until n ss) then λ _. refuse_if (any_high n ss) 3 (suc (suc (length before) + length (until n ss))))
        → (refuse_for f (suc (length before)) then λ _. steps_reply n (b ∷ before) ss)
        ≡ ((refuse_for f (suc (length before)) then λ _. bonds_reply n (b ∷ before) (until n ss)) then λ _. refuse_if (any_high n ss) 3 (suc (length before + suc (length (until n ss)))))
    go zero more = more ∙ ap (λ (k : ℕ). bonds_reply n (b ∷ before) (until n ss) then λ _. refuse_if (any_high n ss) 3 (suc k)) same
    go (suc f) more = refl

abbrev stop : Refusal → Read (Unit {0})
stop r = refused r

stopped : (m : Read (Unit {0})) (r : Refusal) (f g : Unit {0} → Read Graph) → ((m then λ _. stop r) then f) ≡ ((m then λ _. stop r) then g)
stopped (refused q) r f g = refl
stopped (read u) r f g = refl

abbrev pass : Read (Unit {0})
pass = read tt

regrouped : (m x : Read (Unit {0})) (f : Unit {0} → Read Graph) → ((m then λ _. pass) then λ _. x then f) ≡ ((m then λ _. x) then f)
regrouped (refused q) x f = refl
regrouped (read u) x f = refl

module _ (n : ℕ) (ss : List Step) (room : ℕ) where
  pub too_few : n ≡ 0 → block_of n ss room ≡ refused (refusal 1 0)
  unfolding block_of
  too_few e = rw (eq-eqb n 0 e)

  pub too_many : most_atoms < n → block_of n ss room ≡ refused (refusal 1 0)
  unfolding block_of
  too_many h = rw (ne_eqb n 0 (omega arith), lt-ltb most_atoms n h)

  pub too_long : (n ≡ 0 → ⊥) → n ≤ most_atoms → most_bytes < bonds_length (bonds_in ss) → block_of n ss room ≡ refused (refusal 2 0)
  unfolding block_of
  too_long low high h = rw (ne_eqb n 0 low, le-ltb most_atoms n high, lt-ltb most_bytes (bonds_length (bonds_in ss)) h)

  module _ (f : FewBonds n ss) where
    inside : is_outside most_atoms n ≡ false
    inside = rw (ne_eqb n 0 f.low, le-ltb most_atoms n f.high)

    pub fits : bonds_length (until n ss) ≤ most_bytes
    fits = omega (arith, f.short, until_few n ss)

    pub in_size : Sized n (bond_list_bytes (until n ss))
    in_size =
        let l = bytes_length (until n ss) in
        let m : length (bond_list_bytes (until n ss)) % 2 ≡ 0 = omega arith in
        record { atoms = inside; bytes = rw (eq-eqb (length (bond_list_bytes (until n ss)) % 2) 0 m, le-ltb most_bytes (length (bond_list_bytes (until n ss))) (omega (arith, fits))) }

    -- the refusals of the bonds up to a label above n, then 9
    judged_first : block_of n ss room
        ≡ (high_reply n (bond_list_bytes (until n ss)) (any_high n ss) then λ _. refuse_if (ltb room (bonds_length (bonds_in ss))) 9 0 then λ _. read (molecule n ss))
    unfolding block_of
    judged_first =
        rw (inside, le-ltb most_bytes (bonds_length (bonds_in ss)) f.short)
        (rw (steps_until n [] ss) (go (any_high n ss) refl))
      where
        go : (t : Bool) → any_high n ss ≡ t
            → ((bonds_reply n [] (until n ss) then λ _. refuse_if t 3 (suc (0 + length (until n ss)))) then λ _. refuse_if (not (connected (molecule n ss))) 7 0 then λ _. refuse_if (ltb room (bonds_length (bonds_in ss))) 9 0 then λ _. read (molecule n ss))
            ≡ (high_reply n (bond_list_bytes (until n ss)) t then λ _. refuse_if (ltb room (bonds_length (bonds_in ss))) 9 0 then λ _. read (molecule n ss))
        go true e =
            let l = bytes_length (until n ss) in
            let place : length (bond_list_bytes (until n ss)) / 2 + 1 ≡ suc (0 + length (until n ss)) = omega arith in
            rw (bytes_bonds (until n ss), place) (stopped (bonds_reply n [] (until n ss)) (refusal 3 (suc (0 + length (until n ss)))) _ _)
        go false e =
            let u = until_all n ss e in
            rw (u, sized n (bond_list_bytes (bonds_in ss)) (rw u at in_size), bytes_bonds (bonds_in ss)) (regrouped (bonds_reply n [] (bonds_in ss)) (refuse_if (not (connected (molecule n ss))) 7 0) _)

    module _ (e : high_reply n (bond_list_bytes (until n ss)) (any_high n ss) ≡ read tt) where
      no_high : until n ss ≡ bonds_in ss
      no_high = until_all n ss (go (any_high n ss) e)
        where
          go : (t : Bool) → high_reply n (bond_list_bytes (until n ss)) t ≡ read tt → t ≡ false
          go false q = refl
          go true q = deny (bonds_reply n [] (bonds_of (bond_list_bytes (until n ss)))) q
            where
              deny : (m : Read (Unit {0})) → (m then λ _. label_refused (bond_list_bytes (until n ss))) ≡ read tt → true ≡ false
              deny (refused r) q = absurd (not_read q)
              deny (read u) q = absurd (not_read q)

      pub no_room : room < bonds_length (until n ss) → block_of n ss room ≡ refused (refusal 9 0)
      no_room h = judged_first ∙ rw (e, lt-ltb room (bonds_length (bonds_in ss)) (rw no_high at h))

      pub all_read : bonds_length (until n ss) ≤ room → block_of n ss room ≡ read (molecule n ss)
      all_read h = judged_first ∙ rw (e, le-ltb room (bonds_length (bonds_in ss)) (rw no_high at h))

    -- so what is kept of the text, up to a label above n, gives the reply
    pub kept_is : kept_reply n (bond_list_bytes (until n ss)) (any_high n ss) room ≡ block_of n ss room
    kept_is = go (high_reply n (bond_list_bytes (until n ss)) (any_high n ss)) refl
      where
        go : (m : Read (Unit {0})) → high_reply n (bond_list_bytes (until n ss)) (any_high n ss) ≡ m
            → (m then λ _. refuse_if (ltb room (length (bond_list_bytes (until n ss)))) 9 0 then λ _. read (graph_of n (bond_list_bytes (until n ss)))) ≡ block_of n ss room
        go (refused r) e = sym (judged_first ∙ rw e)
        go (read u) e = rw (bytes_length (until n ss), bytes_bonds (until n ss), no_high e) (sym (judged_first ∙ rw e))

-- what is kept: the ways through, and what they leave in the lent bytes
module _ (n : ℕ) (xs : List ℕ) (high : Bool) (room : ℕ) where
  pub kept_bad : (r : Refusal) → high_reply n xs high ≡ refused r → kept_reply n xs high room ≡ refused r
  kept_bad r e = rw e

  module _ (e : high_reply n xs high ≡ read tt) where
    pub kept_short : room < length xs → kept_reply n xs high room ≡ refused (refusal 9 0)
    kept_short h = rw (e, lt-ltb room (length xs) h)

    pub kept_all : length xs ≤ room → kept_reply n xs high room ≡ read (graph_of n xs)
    kept_all h = rw (e, le-ltb room (length xs) h)

pub stays : {x : Read Graph} (out : List ℕ) {r : Refusal} → x ≡ refused r → out ≡ bytes_after x out
stays out e = rw e

module _ (n : ℕ) (xs : List ℕ) (s : Sized n xs) where
  pairs : length xs % 2 ≡ 0
  pairs = go (eqb (length xs % 2) 0) refl s.bytes
    where
      go : (t : Bool) → eqb (length xs % 2) 0 ≡ t → (not t || ltb most_bytes (length xs)) ≡ false → length xs % 2 ≡ 0
      go true e q = eqb-true (length xs % 2) 0 e
      go false e q = absurd (true≢false q)

  pub half : length xs / 2 ≡ length (bonds_of xs)
  half = omega (arith, pairs, bytes_length (bonds_of xs), ap length (bonds_bytes xs pairs))

  pub put_in : (out : List ℕ) {x : Read Graph} {last : List ℕ} → x ≡ read (graph_of n xs) → last ≡ xs ++ drop (length xs) out → last ≡ bytes_after x out
  put_in out e p = let l : 2 * length (bonds_of xs) ≡ length xs = omega (arith, pairs, half) in rw (e, l, bonds_bytes xs pairs) p

-- the whole text
module _ (text : List ℕ) (room : ℕ) where
  pub reply_fault : fault_at text < length text → neighbours_reply text room ≡ refused (refusal 21 (fault_at text))
  unfolding neighbours_reply
  reply_fault h = rw (lt-ltb (fault_at text) (length text) h)

  module _ (fine : length text ≤ fault_at text) where
    pub reply_none : numbers text ≡ [] → neighbours_reply text room ≡ refused (refusal 22 (length text))
    unfolding neighbours_reply
    reply_none e = rw (le-ltb (fault_at text) (length text) fine, e)

    module _ (n p : ℕ) (xs : List TextNumber) (e : numbers text ≡ text_number n p ∷ xs) where
      pub reply_shape : (r : Refusal) → shape_from (length text) 0 xs ≡ refused r → neighbours_reply text room ≡ refused r
      unfolding neighbours_reply
      reply_shape r f = rw (le-ltb (fault_at text) (length text) fine, e, f)

      pub reply_block : shape_from (length text) 0 xs ≡ read tt → neighbours_reply text room ≡ block_of n (steps xs) room
      unfolding neighbours_reply
      reply_block f = rw (le-ltb (fault_at text) (length text) fine, e, f)
