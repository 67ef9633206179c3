-- Laws of tags: a value obeys a tag exactly if it is within the limit, for all kinds at once; least limits, and tests by the limits of all tags.
use Prim.Native.Nat.{ℕ, zero, suc, ◌-◌, ◌^◌, ◌%◌, ◌*◌, ◌≤◌, ◌<◌, min}
use mathlib.Core.Path.{◌≡◌, refl, sym, ◌∙◌}
use mathlib.Core.Bool.{Bool, true, false, cond, ◌&&◌}
use mathlib.Core.List.{List}
use mathlib.Core.Logic.{inl, inr}
use native.Mathlib.Nat.{pow-le-pow_right, one-le-pow}
use Rattle.std.proofs.lemmas.Nat.{one_shl}
use Rattle.std.proofs.lemmas.Grind.{common_steps}
use native.Mathlib.Omega.{arith}
use Rattle.std.proofs.lemmas.Bool.Decides.{nat_tests}
use native.Mathlib.Decide.{dec_le, ℕ_discrete}
use borrow.Author.Tests.{le-leb, leb-true, eq-eqb, eqb-true}
use lib.Dec.{leb, eqb}
use lib.ListN.{length, set, get_or, replicate, length-set, length-replicate, get_or-replicate}
use Rattle.circuit.specs.Run.{values_in}
use Rattle.laws.specs.Sum.{implies}
use Rattle.laws.specs.Standing.{is_input}
use Rattle.laws.proofs.Sum.{and_left, and_right}
use Rattle.tags.specs.Tag.{Kind, Binary, Maxbit, Maxvalue, Tag, Allows, limit_by, limit, Obeys, Sheet, least_of, lowered, keeps, kept}
use Rattle.tags.specs.Answer.{number_most, LoweredBy, Lowered}

-- Limits

within_limit : (kind : Kind) (v x : ℕ) → Allows kind v x → x ≤ limit_by kind v
within_limit Binary v x (inl e) = omega arith
within_limit Binary v x (inr e) = omega arith
within_limit Maxbit v x h = omega arith
within_limit Maxvalue v x h = h

limit_allows : (kind : Kind) (v x : ℕ) → x ≤ limit_by kind v → Allows kind v x
limit_allows Binary v zero h = inl refl
limit_allows Binary v (suc x) h = inr (omega arith)
limit_allows Maxbit v x h = omega (arith, one-le-pow v 2 (omega arith))
limit_allows Maxvalue v x h = h

-- LIMIT: a value obeys a tag exactly if it is at most the limit, whatever the kind
pub obeys_exactly : (t : Tag) (x : ℕ) → (Obeys t x → x ≤ limit t) × (x ≤ limit t → Obeys t x)
unfolding limit
obeys_exactly t x = (within_limit t.kind t.number x, limit_allows t.kind t.number x)

-- Powers of 2 in 32 bits

-- the largest number of so many bits, as it is shifted
pub largest_shifted : (bits : ℕ) → 1 * 2 ^ min bits 32 % 2 ^ 64 - 1 ≡ min (2 ^ bits - 1) number_most
largest_shifted bits = go (dec_le bits 32)
  where
    shifted : (v : ℕ) → v ≤ 32 → 1 * 2 ^ v % 2 ^ 64 ≡ 2 ^ v
    shifted v h = one_shl v 64 (omega arith)

    go : Dec (bits ≤ 32) → 1 * 2 ^ min bits 32 % 2 ^ 64 - 1 ≡ min (2 ^ bits - 1) number_most
    go (yes h) =
        let small : min bits 32 ≡ bits = omega arith in
        let most : 2 ^ bits ≤ 4294967296 = pow-le-pow_right {n = 2} (omega arith) h in
        rw (small, shifted bits h) (omega arith)
    go (no h) =
        let large : min bits 32 ≡ 32 = omega arith in
        let least : 4294967296 ≤ 2 ^ bits = pow-le-pow_right {n = 2} (omega arith) {i = 32} {j = bits} (omega arith) in
        rw (large) (omega arith)

-- Least limits

-- one tag more, over the tests
pub least_more : (input on : Bool) (least limit x : ℕ)
    → cond (input && on) (min (cond input least x) limit) (cond input least x) ≡ cond input (cond on (min least limit) least) x
least_more true true least limit x = refl
least_more true false least limit x = refl
least_more false on least limit x = refl

-- one tag: nothing to lower, and a bound lowered
pub lower_none : {i : ℕ} {t : Tag} {before : List ℕ}
    → ((s : ℕ) → s < length before → 1 ≤ s → s ≤ i → t.signal ≡ s → values_in before s ≤ limit t) → LoweredBy i t before before
unfolding is_input
lower_none {i} {t} {before} h = record { sized = refl; each = λ s l. grind (arith, nat_tests, h s l) }

pub lower_set : {i : ℕ} {t : Tag} {before : List ℕ} (least : ℕ) → 1 ≤ t.signal → t.signal ≤ i → t.signal < length before
    → values_in before t.signal ≤ number_most → least ≡ min (values_in before t.signal) (min (limit t) number_most)
    → LoweredBy i t before (set before t.signal least)
unfolding is_input values_in
lower_set {i} {t} {before} least l m inside small is =
    record { sized = length-set before t.signal least; each = λ s h. grind (arith, common_steps) }

-- tags 1 to k of a sheet
abbrev pub up_to : Sheet → ℕ → Sheet
up_to T k = record { count = k; tag = T.tag }

pub lower_start : (i : ℕ) (T : Sheet) (before : List ℕ) → Lowered i (up_to T 0) before before
unfolding lowered least_of
lower_start i T before = record { sized = refl; each = λ s l. same (is_input i s) (values_in before s) }
  where
    same : (b : Bool) (x : ℕ) → x ≡ cond b x x
    same true x = refl
    same false x = refl

-- a turn at tag k: from the tags before it to those up to it
pub lower_more : {i : ℕ} (T : Sheet) (k : ℕ) {before middle later : List ℕ} → 1 ≤ k → Lowered i (up_to T (k - 1)) before middle
    → LoweredBy i (T.tag k) middle later → Lowered i (up_to T k) before later
unfolding lowered least_of
lower_more {i} T zero l L B = absurd (omega arith)
lower_more {i} T (suc k) {before} {middle} l earlier B =
    let less : suc k - 1 ≡ k = omega arith in
    let L : Lowered i (up_to T k) before middle = rw less at earlier in
    record {
      sized = B.sized ∙ L.sized;
      each = λ s inside.
          B.each s (omega (arith, L.sized))
          ∙ rw (L.each s inside)
          (least_more (is_input i s) (eqb (T.tag (suc k)).signal s) (least_of T.tag s (values_in before s) k) (limit (T.tag (suc k))) (values_in before s));
    }

pub lower_end : {i : ℕ} (T : Sheet) (k : ℕ) {before later : List ℕ} → k ≡ T.count → Lowered i (up_to T k) before later → Lowered i T before later
lower_end T k e L = rw e at L

-- what is within all limits on s is within the least
pub least_above : (tag : ℕ → Tag) (s x y k : ℕ) → y ≤ x → ((j : ℕ) → 1 ≤ j → j ≤ k → (tag j).signal ≡ s → y ≤ limit (tag j)) → y ≤ least_of tag s x k
unfolding least_of
least_above tag s x y zero h each = h
least_above tag s x y (suc k) h each =
    go (eqb (tag (suc k)).signal s) refl (least_above tag s x y k h (λ j l m e. each j l (omega arith) e))
  where
    go : (b : Bool) → eqb (tag (suc k)).signal s ≡ b → y ≤ least_of tag s x k
        → y ≤ cond b (min (least_of tag s x k) (limit (tag (suc k)))) (least_of tag s x k)
    go true e before = omega (arith, each (suc k) (omega arith) (omega arith) (eqb-true _ _ e))
    go false e before = before

-- Tests by the limits of all tags

leb_min : (x a b : ℕ) → leb x b && leb x a ≡ leb x (min a b)
leb_min x a b = grind (arith, nat_tests)

-- a value of 32 bits is within a limit exactly if it is within the limit as far as 32 bits go
pub leb_capped : (x l : ℕ) → x ≤ number_most → leb x (min l number_most) ≡ leb x l
leb_capped x l h = grind (arith, nat_tests)

-- all tags on s are kept exactly if the value is within their least limit
pub keeps_least : (tag : ℕ → Tag) (s x most k : ℕ) → x ≤ most → keeps tag s x k ≡ leb x (least_of tag s most k)
unfolding keeps least_of implies
keeps_least tag s x most zero h = sym (le-leb x most h)
keeps_least tag s x most (suc k) h = go (eqb (tag (suc k)).signal s) (keeps_least tag s x most k h)
  where
    go : (b : Bool) → keeps tag s x k ≡ leb x (least_of tag s most k) → implies b (leb x (limit (tag (suc k)))) && keeps tag s x k
        ≡ leb x (cond b (min (least_of tag s most k) (limit (tag (suc k)))) (least_of tag s most k))
    go true later = rw later (leb_min x (least_of tag s most k) (limit (tag (suc k))))
    go false later = later

-- .. which stands in an array that was lowered from the largest number
pub kept_by : {i : ℕ} {T : Sheet} {limits : List ℕ} → Lowered i T (replicate 257 number_most) limits → (values : List ℕ) (s : ℕ) → 1 ≤ s → s ≤ min i 256
    → values_in values s ≤ number_most → kept T (values_in values) s ≡ leb (values_in values s) (values_in limits s)
unfolding kept lowered is_input values_in
kept_by {i} {T} L values s l m small =
    let inside : s < 257 = omega arith in
    let all : get_or (replicate 257 number_most) s 0 ≡ number_most = get_or-replicate 257 s number_most 0 inside in
    let least = L.each s (rw (length-replicate 257 number_most) inside) in
    keeps_least T.tag s (get_or values s 0) number_most T.count small
    ∙ rw (least, all, le-leb 1 s l, le-leb s i (omega arith))

-- .. and exactly if it obeys each of them
pub keeps_each : (tag : ℕ → Tag) (s x k : ℕ) → keeps tag s x k ≡ true → (j : ℕ) → 1 ≤ j → j ≤ k → (tag j).signal ≡ s → Obeys (tag j) x
unfolding keeps implies
keeps_each tag s x zero e j l m h = absurd (omega arith)
keeps_each tag s x (suc k) e j l m h =
    let last = implies (eqb (tag (suc k)).signal s) (leb x (limit (tag (suc k)))) in
    go (ℕ_discrete j (suc k)) (λ before. keeps_each tag s x k (and_right last (keeps tag s x k) e) j l before h)
  where
    go : Dec (j ≡ suc k) → (j ≤ k → Obeys (tag j) x) → Obeys (tag j) x
    go (yes z) earlier =
        let on : (tag (suc k)).signal ≡ s = rw (sym z) h in
        let last : implies (eqb (tag (suc k)).signal s) (leb x (limit (tag (suc k)))) ≡ true = and_left _ (keeps tag s x k) e in
        rw z ((obeys_exactly (tag (suc k)) x).1 (leb-true _ _ (rw (eq-eqb _ _ on) at last)))
    go (no z) earlier = earlier (omega arith)

pub each_keeps : (tag : ℕ → Tag) (s x k : ℕ) → ((j : ℕ) → 1 ≤ j → j ≤ k → (tag j).signal ≡ s → Obeys (tag j) x) → keeps tag s x k ≡ true
each_keeps tag s x k h =
    keeps_least tag s x x k (omega arith) ∙ le-leb x _ (least_above tag s x x k (omega arith) (λ j l m e. (obeys_exactly (tag j) x).0 (h j l m e)))
