-- What passes has passed every part.
use Rattle.std.proofs.Common.{◌≡◌, Bool, true, false, cond, eqb, List, [], ◌∷◌, length, Ok, Err, sym, refl, ap, subst}
use Rattle.std.proofs.lemmas.Bool.{eqb-true}
use Rattle.std.proofs.lemmas.List.Elements.{All-nil, All-cons}
use Rattle.octets.specs.Classes.{Bytes}
use Rattle.layout.specs.declared.Layout.{Layout}
use Rattle.layout.specs.Layouts.{width_of}
use Rattle.transaction.specs.declared.fault.RecordCause.TheVariants.{Length}
use Rattle.transaction.specs.declared.verdict.Verdict.{Verdict}
use Rattle.transaction.specs.declared.verdict.Verdict.TheVariants.{Accepted, Refused}
use Rattle.transaction.specs.Checks.{Holds}
use Rattle.transaction.specs.Layers.{Passed, and_then, named, unless, at, layout_layer}
use Rattle.transaction.specs.Verdicts.{Check, verdict, refusal, Passes, Counts, FirstCounts}

then_first : {E : Type 0} (a b : Passed E) → and_then a b ≡ Ok tt → a ≡ Ok tt
then_first (Ok x) b h = refl
then_first (Err e) b h = h

pub named_passes : {E F : Type 0} (f : E → F) (a : Passed E) → named f a ≡ Ok tt → a ≡ Ok tt
named_passes f (Ok x) h = refl
named_passes f (Err e) h = cc

unless_passes : {E : Type 0} (t : Bool) (e : E) → unless t e ≡ Ok tt → t ≡ true
unless_passes true e h = refl
unless_passes false e h = cc

-- a record that passes has its layout's length
pub layout_long : (holds : Holds) (r : Bytes) (l : Layout) → layout_layer holds r l ≡ Ok tt → length r ≡ width_of l
layout_long holds r l t = eqb-true (length r) (width_of l) (unless_passes (eqb (length r) (width_of l)) Length (then_first _ _ t))

pub header_passes : (holds : Holds) (h : Bytes) (l : Layout) → named (at 0) (layout_layer holds h l) ≡ Ok tt → length h ≡ width_of l
header_passes holds h l t = layout_long holds h l (named_passes (at 0) (layout_layer holds h l) t)

-- one check more in front, which passes
pass : (c : Check) (cs : List Check) (v : Verdict) → Passes c → Counts cs v → Counts (c ∷ cs) v
pass c cs Accepted e h = All-cons Passes c cs e h
pass c cs (Refused code r k) e h = record {
  before = c ∷ h.before;
  failing = h.failing;
  others = h.others;
  split = ap (λ xs. c ∷ xs) h.split;
  all_pass = All-cons Passes c h.before e h.all_pass;
  fails = h.fails;
  gives = h.gives;
}

-- accepted exactly if every check passes; else the first failing check
pub first_counts : FirstCounts
first_counts [] = All-nil Passes
first_counts (c ∷ cs) = go c.passes refl (first_counts cs)
  where
    go : (v : Bool) → c.passes ≡ v → Counts cs (verdict cs) → Counts (c ∷ cs) (verdict (c ∷ cs))
    go true e h = subst (λ v. Counts (c ∷ cs) (cond v (verdict cs) (refusal c))) (sym e) (pass c cs (verdict cs) e h)
    go false e h = subst (λ v. Counts (c ∷ cs) (cond v (verdict cs) (refusal c))) (sym e) (record { before = []; failing = c; others = cs; split = refl; all_pass = All-nil Passes; fails = e; gives = refl })
