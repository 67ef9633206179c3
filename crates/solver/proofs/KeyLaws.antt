-- The one step by which a constraint lowers a bound: as a step of the problem, as a key, and while the bounds of its signals stay.
use Prim.Native.Nat.{ℕ, zero, suc, ◌*◌, ◌≤◌, ◌<◌}
use mathlib.Core.Path.{◌≡◌, refl, sym, ap, ◌∙◌}
use mathlib.Core.Bool.{true, false, not, ◌&&◌}
use mathlib.Core.Logic.{inl, inr, ⊎_elim}
use native.Mathlib.Omega.{arith}
use native.Mathlib.Nat.{mod-lt, zero-mod, sub-zero, mul-mod_right}
use lib.Dec.{eqb}
use borrow.Author.Tests.{le-leb, lt-ltb}
use Rattle.field.specs.Prime.{Prime}
use Rattle.field.specs.Residue.{opposite}
use Rattle.field.specs.Inverse.{inverse}
use Rattle.circuit.specs.Circuit.{Form, Constraint, names}
use Rattle.laws.specs.Problem.{Problem, Subject, subject}
use Rattle.laws.specs.Sum.{keep}
use Rattle.laws.specs.Standing.{Standing, Change, at_most, fixed, not_zero, bounds, value}
use Rattle.laws.specs.Rules.{names_none, linear, reduced, occurs, is_zero, names_only, root_met, root, root_bound, sum_weight, ceiling, sum_term, sum_bound, sum_met}
use Rattle.laws.specs.Step.{Kind, Root, Sum, kind_number, names_of, Step, Rule, within, rule, rule_of, in_range, met, change}
use Rattle.laws.specs.Solver.{step, new_bound, lowers}
use Rattle.laws.proofs.Sum.{and_left, and_right, and_both, or_left, or_cases, by_test, true_or_false, true_by, sum_cong, none_times}
use Rattle.laws.proofs.Forms.{none_at}
use Rattle.laws.proofs.SumRule.{SumMet, sum_met_lem}
use Rattle.laws.proofs.Reduced.{occurs_yes}
use Rattle.laws.proofs.Turns.{target_within}
use Rattle.laws.proofs.Best.{Bounding, by_root, by_sum, sorted, bounding, lowers_says, lowers_holds, lowers_kind}
use Rattle.laws.proofs.Candidate.{Gains, one_candidate}
use Rattle.rules.specs.Rows.{involves}
use Rattle.solver.specs.Bounds.{key_of, no_key, bounds_only, rule_by, LowersTo, Holder, IsKey}
use Rattle.rules.proofs.RowLaws.{uninvolved_reduced}

abbrev subject_of : ℕ → ℕ → Constraint → Subject
subject_of p n K = record { p = p; n = n; equation = K }

root_below : (p : ℕ) (f : Form) (t : ℕ) → 0 < p → root p f t < p
unfolding root
root_below p f t h = mod-lt _ h

-- what a rule needs of the constraint it names

pub root_names : (K : Constraint) (t : ℕ) → root_met K t ≡ true → (names K.a t ≡ true) × (names_only t K.a ≡ true) × (names K.b t ≡ true)
unfolding root_met
root_names K t e =
    let a = and_right (is_zero K.c) (names K.a t && names_only t K.a) (and_left _ _ e) in
    let b = and_right (is_zero K.c && (names K.a t && names_only t K.a)) (names K.b t && names_only t K.b) e in
    (and_left _ _ a, and_right (names K.a t) _ a, and_left _ _ b)

-- a root's constraint isn't linear
pub root_linear : (K : Constraint) (t : ℕ) → 1 ≤ t → root_met K t ≡ true → linear K ≡ true → ⊥
unfolding linear
root_linear K t l e i =
    let n = root_names K t e in
    or_cases (names_none K.a) (names_none K.b) i (λ z. absurd (omega (arith, none_at K.a z t n.0)))
    (λ z. absurd (omega (arith, none_at K.b z t n.2)))

pub occurs_involves : (p : ℕ) (K : Constraint) (t : ℕ) → 0 < p → 1 ≤ t → occurs (reduced p K) t ≡ true → involves K t ≡ true
occurs_involves p K t h l e = true_by _ (λ d. occurs_yes p K t e (uninvolved_reduced p K t h l d))

-- a signal that doesn't occur has weight 0
pub weight_absent : (p : ℕ) (R : ℕ → ℕ) (t s : ℕ) → R s ≡ 0 → sum_weight p R t s ≡ 0
unfolding sum_weight opposite
weight_absent p R t s e = rw (e, zero-mod p, sub-zero) (mul-mod_right p (inverse p (R t)))

module _ (p n : ℕ) (K : Constraint) (b : ℕ → ℕ) where
  -- a step that lowers a bound is a root or a sum
  pub lowers_bounding : {q : Kind} {t x : ℕ} → LowersTo p n K b q t x → Bounding q
  lowers_bounding {q} {t} L = bounding (sorted q (subject_of p n K) (bounds_only b) t 0) (ap bounds L.gives)

  pub data LowersBy (t x : ℕ) : Kind → Type 0 where
    a_root : root_met K t ≡ true → root_bound p K t ≡ x → LowersBy t x Root
    a_sum : SumMet p n K b t → sum_bound p n (reduced p K) b t ≡ x → LowersBy t x Sum

  pub lowers_by : {q : Kind} {t x : ℕ} → LowersTo p n K b q t x → LowersBy t x q
  lowers_by {q} {t} {x} L = go (lowers_bounding L) L.meets L.gives
    where
      go : {q : Kind} → Bounding q → (rule_by p n K b q t).met ≡ true → (rule_by p n K b q t).change ≡ at_most x → LowersBy t x q
      go by_root m g = a_root m (ap value g)
      go by_sum m g = a_sum (sum_met_lem p n K b t m) (ap value g)

  pub lowers_root : (t : ℕ) → 1 ≤ t → t ≤ n → root_met K t ≡ true → root_bound p K t < b t → LowersTo p n K b Root t (root_bound p K t)
  lowers_root t l h m g = record { least = l; most = h; meets = m; gives = refl; less = g }

  pub lowers_sum : (t : ℕ) → 1 ≤ t → t ≤ n → linear K ≡ true → occurs (reduced p K) t ≡ true → sum_bound p n (reduced p K) b t < p
      → sum_bound p n (reduced p K) b t < b t → LowersTo p n K b Sum t (sum_bound p n (reduced p K) b t)
  unfolding sum_met
  lowers_sum t l h i o m g =
      record { least = l; most = h; meets = and_both _ _ (and_both _ _ i o) (lt-ltb _ _ m); gives = refl; less = g }

  -- new bounds are below p
  pub lowers_below : 0 < p → {q : Kind} {t x : ℕ} → LowersTo p n K b q t x → x < p
  unfolding root_bound
  lowers_below h {q} {t} {x} L = go (lowers_by L)
    where
      go : {q : Kind} → LowersBy t x q → x < p
      go (a_root m e) = omega (arith, e, root_below p K.a t h, root_below p K.b t h)
      go (a_sum M e) = omega (arith, e, M.below)

  -- No step, and one step

  pub no_key_lem : ((q : Kind) (t x : ℕ) → LowersTo p n K b q t x → ⊥) → IsKey p n K b no_key
  no_key_lem h = record { only = λ q t x L. absurd (h q t x L); held = inl refl }

  gains : {q : Kind} {t x : ℕ} → LowersTo p n K b q t x → Gains q (subject_of p n K) (bounds_only b) t
  gains L = record { meets = L.meets; less = rw L.gives L.less }

  pub one_key : Prime p → {q : Kind} {t x : ℕ} → LowersTo p n K b q t x → IsKey p n K b (key_of x t (kind_number q))
  one_key P {q} {t} {x} L =
      record { only = only; held = inr (record { kind = q; target = t; bound = x; lowers = L; is_key = refl }) }
    where
      only : (q' : Kind) (u y : ℕ) → LowersTo p n K b q' u y → key_of x t (kind_number q) ≡ key_of y u (kind_number q')
      only q' u y M =
          let e = one_candidate (subject_of p n K) (bounds_only b) P t u (lowers_bounding L) (lowers_bounding M)
          L.least L.most M.least M.most (gains L) (gains M) in
          same e.0 e.1 L.gives M.gives
        where
          same : q ≡ q' → t ≡ u → (rule_by p n K b q t).change ≡ at_most x → (rule_by p n K b q' u).change ≡ at_most y
              → key_of x t (kind_number q) ≡ key_of y u (kind_number q')
          same e f g h =
              let h' : (rule_by p n K b q t).change ≡ at_most y = rw (e, f) h in
              let z : x ≡ y = ap value (sym g ∙ h') in
              rw (e, f, z)

-- While the bounds of the signals that the constraint names stay

module _ (p n : ℕ) (K : Constraint) (b b' : ℕ → ℕ) (positive : 0 < p) (same : (s : ℕ) → 1 ≤ s → involves K s ≡ true → b s ≡ b' s) where
  term_same : (t s : ℕ) → sum_term p (reduced p K) b t s ≡ sum_term p (reduced p K) b' t s
  unfolding sum_term ceiling
  term_same t zero = refl
  term_same t (suc s) =
      by_test (involves K (suc s)) (λ e. ap (λ (x : ℕ). keep (not (eqb (suc s) t)) (sum_weight p (reduced p K) t (suc s) * x)) (same (suc s) (omega arith) e))
      (λ e. ap (keep (not (eqb (suc s) t))) (absent (b (suc s)) e ∙ sym (absent (b' (suc s)) e)))
    where
      absent : (x : ℕ) → involves K (suc s) ≡ false → sum_weight p (reduced p K) t (suc s) * x ≡ 0
      absent x e = none_times _ x (weight_absent p (reduced p K) t (suc s) (uninvolved_reduced p K (suc s) positive (omega arith) e))

  sum_same : (t : ℕ) → sum_bound p n (reduced p K) b t ≡ sum_bound p n (reduced p K) b' t
  unfolding sum_bound
  sum_same t = sum_cong (suc n) _ _ (λ s l. term_same t s)

  pub lowers_kept : {q : Kind} {t x : ℕ} → LowersTo p n K b q t x → LowersTo p n K b' q t x
  unfolding involves
  lowers_kept {q} {t} {x} L = go (lowers_by p n K b L)
    where
      go : {q : Kind} → LowersBy p n K b t x q → LowersTo p n K b' q t x
      go (a_root m e) =
          record {
            least = L.least;
            most = L.most;
            meets = m;
            gives = ap at_most e;
            less = omega (arith, L.less, same t L.least (or_left _ _ (or_left _ _ (root_names K t m).0)));
          }
      go (a_sum M e) =
          let equal = sum_same t in
          let at-t = same t L.least (occurs_involves p K t positive L.least M.has_target) in
          let M' = lowers_sum p n K b' t L.least L.most M.is_linear M.has_target (omega (arith, M.below)) (omega (arith, L.less, e)) in
          rw (sym e ∙ equal) M'

pub key_kept : (p n : ℕ) (K : Constraint) (b b' : ℕ → ℕ) → 0 < p → ((s : ℕ) → 1 ≤ s → involves K s ≡ true → b s ≡ b' s)
    → (key : ℕ) → IsKey p n K b key → IsKey p n K b' key
key_kept p n K b b' h same key I =
    record {
      only = λ q t x L. I.only q t x (lowers_kept p n K b' b h (λ s l e. sym (same s l e)) L);
      held = ⊎_elim (λ z. inl z) (λ H. inr (held H)) I.held;
    }
  where
    held : Holder p n K b key → Holder p n K b' key
    held H =
        record { kind = H.kind; target = H.target; bound = H.bound; lowers = lowers_kept p n K b b' h same H.lowers; is_key = H.is_key }

-- As steps of the problem

module _ (P : Problem) (S : Standing) where
  pub rule_is : {q : Kind} → Bounding q → (k t r : ℕ)
      → rule q (subject (names_of q) P k) S t r ≡ rule_by P.p P.n (P.constraint k) S.bound q t
  rule_is by_root k t r = refl
  rule_is by_sum k t r = refl

  as_bound : (c : Change) → bounds c ≡ true → c ≡ at_most (value c)
  as_bound (at_most x) e = refl
  as_bound fixed e = true_or_false false e refl
  as_bound not_zero e = true_or_false false e refl

  pub lowers_to : (x : Step) → lowers P S x ≡ true
      → LowersTo P.p P.n (P.constraint x.constraint) S.bound x.kind x.target (new_bound P S x)
  unfolding met change rule_of new_bound
  lowers_to x e =
      let h = lowers_says P S x e in
      let w = target_within P x h.ranged in
      let same = rule_is (lowers_kind P S x h) x.constraint x.target x.reference in
      record {
        least = w.0;
        most = w.1;
        meets = ap (λ (y : Rule). y.met) (sym same) ∙ h.meets;
        gives = ap (λ (y : Rule). y.change) (sym same) ∙ as_bound _ h.is_bound;
        less = h.less;
      }

  ranged : {q : Kind} → Bounding q → (t k : ℕ) → 1 ≤ t → t ≤ P.n → 1 ≤ k → k ≤ P.m → in_range P (step q t k 0) ≡ true
  unfolding in_range within
  ranged by_root t k l h l' h' = rw (le-leb 1 t l, le-leb t P.n h, le-leb 1 k l', le-leb k P.m h') refl
  ranged by_sum t k l h l' h' = rw (le-leb 1 t l, le-leb t P.n h, le-leb 1 k l', le-leb k P.m h') refl

  -- the step by constraint k
  pub lowers_step : {q : Kind} {t x : ℕ} (k : ℕ) → 1 ≤ k → k ≤ P.m → LowersTo P.p P.n (P.constraint k) S.bound q t x
      → (lowers P S (step q t k 0) ≡ true) × (new_bound P S (step q t k 0) ≡ x)
  unfolding met change rule_of new_bound
  lowers_step {q} {t} {x} k l m L =
      let b = lowers_bounding _ _ _ _ L in
      let same = rule_is b k t 0 in
      let c : (rule q (subject (names_of q) P k) S t 0).change ≡ at_most x = ap (λ (y : Rule). y.change) same ∙ L.gives in (
        lowers_holds P S (step q t k 0)
            (record {
              ranged = ranged b t k L.least L.most l m;
              meets = ap (λ (y : Rule). y.met) same ∙ L.meets;
              is_bound = ap bounds c;
              less = rw c L.less;
            }),
        ap value c,
      )
