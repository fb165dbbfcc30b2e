-- A clause on an answer, from another.
use Rattle.std.proofs.Common.{◌≡◌, ◌⊎◌, inl, inr, Bool, Option, Result, Some, None, Ok, Err, subst}
use Rattle.std.specs.Prelude.{IfNone, IfErr, OnSome, OnOk, OnErr}
use Rattle.aq_base.specs.declared.observation.Observation.{Observation}
use Rattle.aq_shelf.specs.declared.fault.ShelfFault.{ShelfFault}
use Rattle.aq_shelf.specs.Standing.{IsPutFault}

pub on_some : {T P Q : Type 0} (o : Option T) → (P → Q) → OnSome o P → OnSome o Q
on_some None f h = tt
on_some (Some x) f h = f h

pub if_none : {T P Q : Type 0} (o : Option T) → (P → Q) → IfNone o P → IfNone o Q
if_none None f h = f h
if_none (Some x) f h = tt

pub on_ok : {T E P Q : Type 0} (r : Result T E) → (P → Q) → OnOk r P → OnOk r Q
on_ok (Ok x) f h = f h
on_ok (Err e) f h = tt

pub on_err : {T E P Q : Type 0} (r : Result T E) → (P → Q) → OnErr r P → OnErr r Q
on_err (Ok x) f h = tt
on_err (Err e) f h = f h

pub if_err : {T E : Type 0} {P Q : E → Type 0} (r : Result T E) → ((e : E) → P e → Q e) → IfErr r P → IfErr r Q
if_err (Ok x) f h = tt
if_err (Err e) f h = f e h

pub changed_or_not : {T P Q : Type 0} (o : Option T) → OnSome o P → IfNone o Q → P ⊎ Q
changed_or_not None p q = inr q
changed_or_not (Some x) p q = inl p

pub put_or_not : {T E P Q : Type 0} (r : Result T E) → OnOk r P → OnErr r Q → P ⊎ Q
put_or_not (Ok x) p q = inl p
put_or_not (Err e) p q = inr q

pub IsPutFault-same : (fault : ShelfFault) (full now : Bool) (found there : Option Observation) → full ≡ now → found ≡ there → IsPutFault fault full found → IsPutFault fault now there
IsPutFault-same fault full now found there is same h =
    subst (λ (b : Bool). IsPutFault fault b there) is (subst (λ (o : Option Observation). IsPutFault fault full o) same h)
