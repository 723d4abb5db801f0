-- Lines: a word pasted behind a text, and words added one after the other.
use Prim.Native.Nat.{ℕ, ◌+◌, ◌-◌, ◌≤◌}
use mathlib.Core.Path.{◌≡◌, sym, ap, ap₂, ◌∙◌}
use mathlib.Core.List.{List, [], ◌++◌, append_assoc}
use native.Mathlib.Omega.{arith}
use lib.ListN.{length, take, drop, length-append, length-replicate, replicate-append-replicate}
use lib.Seq.{sets-eq, paste, take-paste, drop-paste, take-length, take-append_seam, drop-append-add, drop-drop, drop_at}
use Rattle.io.specs.Counts.{IsPrefixLen}
use Rattle.line.specs.declared.Line.{Line}
use Rattle.line.specs.Text.{longest, zeros, padded, lined}
use Rattle.text.specs.Put.{Puts}
use Rattle.line.specs.Put.{Pasted, Adds}

drop-zeros : (k n : ℕ) → k ≤ n → drop k (zeros n) ≡ zeros (n - k)
drop-zeros k n h =
    let e : n ≡ k + (n - k) = omega arith in
    ap (λ (z : ℕ). drop k (zeros z)) e ∙ ap (drop k) (sym (replicate-append-replicate k (n - k) 0)) ∙ drop_at (zeros k) (zeros (n - k)) k (length-replicate k 0)

-- a word pasted behind a text
paste-padded : (t w : List ℕ) → length (t ++ w) ≤ longest → paste (padded t) (length t) w (length w) ≡ padded (t ++ w)
unfolding padded
paste-padded t w room =
    let n = longest - length t in
    let whole : length (t ++ w) ≡ length t + length w = length-append t w in
    let left : n - length w ≡ longest - length (t ++ w) = omega arith in
    let rest : drop (length t + length w) (t ++ zeros n) ≡ zeros (longest - length (t ++ w)) =
    drop-append-add t (zeros n) (length w) ∙ drop-zeros (length w) n (omega arith) ∙ ap zeros left in
    ap₂ (λ (a b : List ℕ). a ++ take (length w) w ++ b) (take-append_seam t (zeros n)) rest ∙ ap (λ (b : List ℕ). t ++ b ++ zeros (longest - length (t ++ w))) (take-length w)

pub length-padded : (t : List ℕ) → length t ≤ longest → length (padded t) ≡ longest
unfolding padded
length-padded t h = simp (length-append, length-replicate) (omega arith)

-- a word that there is room for is put whole
pub pasted : {before word after : List ℕ} {at r : ℕ} → Puts before at word after r → at + length word ≤ length before → Pasted before at word after r
pasted {before} {word} {after} {at} p room = record {
  end = omega (arith, p.end);
  text = p.bytes ∙ sets-eq word before at room ∙ ap (λ (w : List ℕ). take at before ++ w ++ drop (at + length word) before) (sym (take-length word));
}

-- a word put behind a line's text is added to the line
pub adds : (line : Line) (word after : List ℕ) (r : ℕ) → Puts line.text line.len word after r → Adds line word (record { text = after; len = r })
adds line word after r put t is room =
    let whole : length (t ++ word) ≡ length t + length word = length-append t word in
    let p : Pasted (padded t) (length t) word after r = pasted (rw is at put) (omega (arith, length-padded t (omega arith))) in
    ap₂ (λ (b : List ℕ) (k : ℕ). record { text = b; len = k }) (p.text ∙ paste-padded t word room) (p.end ∙ sym whole)

-- one word after the other
pub then : {a b c : Line} {v w : List ℕ} → Adds a v b → Adds b w c → Adds a (v ++ w) c
then {a} {b} {c} {v} {w} p q t is room =
    let e : t ++ v ++ w ≡ t ++ (v ++ w) = append_assoc t v w in
    let room' : length (t ++ v ++ w) ≤ longest = rw e room in
    rw (← e) (q (t ++ v) (p t is (omega (arith, length-append (t ++ v) w))) room')

-- words added to an empty line
pub made : {e r : Line} {t : List ℕ} → e ≡ lined [] → Adds e t r → length t ≤ longest → r ≡ lined t
made is p room = p [] is room

-- what a public function promises of its line, and that its length counts bytes of its text
pub shown : (r : Line) (t : List ℕ) → length t ≤ longest → r ≡ lined t → (r ≡ lined t) × IsPrefixLen r.len r.text
unfolding padded
shown r t room is =
    let e : length (padded t) ≡ longest = length-padded t room in
    (is, rw is (omega arith, sym (ap length (take-append_seam t (zeros (longest - length t))))))

-- the line of a value that is known to be w
pub case : {A : Type 0} (text : A → List ℕ) (v w : A) (r : Line) → length (text v) ≤ longest → v ≡ w → r ≡ lined (text w) → (r ≡ lined (text v)) × IsPrefixLen r.len r.text
case text v w r room e is = shown r (text v) room (rw e is)

-- one word pasted behind the other
pub paste_twice : (d v w : List ℕ) (n : ℕ) → n ≤ length d → paste (paste d n v (length v)) (n + length v) w (length w) ≡ take n d ++ (v ++ w) ++ drop (n + length (v ++ w)) d
paste_twice d v w n h =
    let p = paste d n v (length v) in
    let all : length v ≤ length v = omega arith in
    let end : n + length v + length w ≡ n + length (v ++ w) = omega (arith, length-append v w) in
    let front : take (n + length v) p ≡ take n d ++ v = take-paste d n v (length v) h all ∙ ap (λ (z : List ℕ). take n d ++ z) (take-length v) in
    let back : drop (n + length v + length w) p ≡ drop (n + length (v ++ w)) d =
    sym (drop-drop (length w) (n + length v) p) ∙ ap (drop (length w)) (drop-paste d n v (length v) h all) ∙ drop-drop (length w) (n + length v) d ∙ ap (λ (k : ℕ). drop k d) end in
    ap₂ (λ (a b : List ℕ). a ++ take (length w) w ++ b) front back
    ∙ ap (λ (z : List ℕ). take n d ++ v ++ z ++ drop (n + length (v ++ w)) d) (take-length w)
    ∙ ap (λ (z : List ℕ). z ++ drop (n + length (v ++ w)) d) (append_assoc (take n d) v w)
