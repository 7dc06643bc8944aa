-- Words of eight bytes, as the code goes: chunks of eight bytes are the words, and a turn of the writer's loop. Assumes nothing.
use mathlib.Core.Path.{◌≡◌, ap, ◌∙◌}
use mathlib.Core.List.{List, []}
use Prim.Native.Nat.{ℕ, zero, suc, ◌+◌, ◌*◌, ◌/◌, ◌%◌, ◌^◌, ◌<◌, ◌≤◌, ◌-◌}
use native.Mathlib.Nat.{zero-add, add-zero, mul-zero, mul-suc, div-one}
use native.Mathlib.Decide.{dec_lt}
use native.Mathlib.Omega.{arith}
use borrow.Rule.Slice.PartMut.{put_mid}
use lib.ListN.{length, get_or, take, drop, length-drop}
use lib.Seq.{drop-drop, length-take-le, get_or-take}
use mir.Syntax.{w64}
use Rattle.std.proofs.lemmas.List.{take_all, get_or_append_left, get_or-append_right}
use Rattle.std.specs.Int.{from_le_bytes, to_le_bytes, bytes_low_first}
use Rattle.std.specs.Simd.{first_chunks}
use Rattle.rules.specs.Integer.{integer}
use Rattle.numbers.specs.Total.{totalℕ}
use Rattle.numbers.proofs.Positional.{up_to}
use Rattle.words.specs.Words.{word_at, byte_at}

-- chunk k of eight bytes
chunk : (n k m : ℕ) (xs : List ℕ) → k < m → get_or (first_chunks n m xs) k [] ≡ take n (drop (n * k) xs)
chunk n k zero xs h = absurd (omega arith)
chunk n zero (suc m) xs h = rw (mul-zero n)
chunk n (suc k) (suc m) xs h =
    let next : n * suc k ≡ n + n * k = omega (arith, mul-suc n k) in
    chunk n k m (drop n xs) (omega arith) ∙ rw (next, drop-drop)

-- eight bytes, the lowest first, are their integer
le-integer : (bs : List ℕ) → length bs ≡ 8 → from_le_bytes w64 bs ≡ integer bs
unfolding totalℕ
le-integer bs e =
    let all : take 8 bs ≡ bs = take_all 8 bs (omega arith) in
    let sum = rw all at (up_to 256 bs 8 (omega arith)) in
    omega (arith, sum)

-- the k-th chunk of eight bytes, read as a number, is word k
pub chunk-is : {words : List (List ℕ)} {m : ℕ} (src : List ℕ) (k : ℕ) {r : ℕ} → words ≡ first_chunks 8 m src → k < m → 8 * m ≤ length src → r ≡ from_le_bytes w64 (get_or words k []) → r ≡ word_at src k
chunk-is {m} src k w h l e =
    let one = ap (λ (ws : List (List ℕ)). get_or ws k []) w ∙ chunk 8 k m src h in
    let long : length (take 8 (drop (8 * k) src)) ≡ 8 = length-take-le 8 (drop (8 * k) src) (rw length-drop (omega arith)) in
    e ∙ ap (from_le_bytes w64) one ∙ le-integer (take 8 (drop (8 * k) src)) long

-- byte j of a number's k bytes from byte i upward
low-byte : (i k x j : ℕ) → j < k → get_or (bytes_low_first i k x) j 0 ≡ x / 256 ^ (i + j) % 256
low-byte i zero x j h = absurd (omega arith)
low-byte zero (suc k) x zero h = rw div-one
low-byte (suc i) (suc k) x zero h = rw add-zero
low-byte i (suc k) x (suc j) h = let next : i + suc j ≡ suc i + j = omega arith in rw next (low-byte (suc i) k x j (omega arith))

-- the eight bytes of word k are stored from 8 * k up, and those before stay
pub write-turn : (src dst part : List ℕ) (k n : ℕ) → part ≡ to_le_bytes w64 (get_or src k 0) → 8 * k ≤ length dst → ((i : ℕ) → i < 8 * k → get_or dst i 0 ≡ byte_at src i) → (i : ℕ) → i < 8 * (k + 1) → get_or (put_mid (8 * k) n dst part) i 0 ≡ byte_at src i
write-turn src dst part k n e l f i h = by (dec_lt i (8 * k))
  where
    front : length (take (8 * k) dst) ≡ 8 * k
    front = length-take-le (8 * k) dst l

    long : length part ≡ 8
    long = ap length e

    by : Dec (i < 8 * k) → get_or (put_mid (8 * k) n dst part) i 0 ≡ byte_at src i
    by (yes m) = get_or_append_left (take (8 * k) dst) _ 0 i (omega (arith, front)) ∙ get_or-take (8 * k) dst i 0 m ∙ f i m
    by (no m) =
        let word : i / 8 ≡ k = omega arith in
        let byte : i - 8 * k ≡ i % 8 = omega arith in
        get_or-append_right (take (8 * k) dst) _ (8 * k) i 0 front (omega arith)
        ∙ rw (byte, word) (get_or_append_left part _ 0 (i % 8) (omega (arith, long)) ∙ rw e (rw zero-add at (low-byte 0 8 (get_or src k 0) (i % 8) (omega arith))))
