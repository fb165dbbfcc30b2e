-- What passes on a connection, one piece behind the other.
use Rattle.std.proofs.Common.{◌≡◌, ℕ, ◌+◌, ◌-◌, ◌≤◌, List, [], ◌++◌, length, take, drop, refl, sym, ap, ◌∙◌, subst, append_assoc, arith, Option, Some, None}
use Rattle.std.proofs.lemmas.List.{append-nil, drop-append-le, length-drop, take_all}
use Rattle.std.proofs.Math.Seq.{take-add}
use Rattle.aq_outside.specs.Door.{DoorView, Exchange, IsDry, IsSameDoor, Passes, Wire}
use Rattle.aq_serve.specs.Talking.{Gets, Took}

-- nothing passes
pub passes_nothing : (wire : Option Wire) → Exchange [] [] wire wire
passes_nothing None = tt
passes_nothing (Some w) = record { left = refl; written = sym (append-nil w.line.written); coming = refl; past = refl }

pub same_passes : (before after : Option Wire) → after ≡ before → Exchange [] [] before after
same_passes before after e = subst (λ w. Exchange [] [] before w) (sym e) (passes_nothing before)

passes_join : (a b c : Wire) (got sent more further : List ℕ) → Passes got sent a b → Passes more further b c → Passes (got ++ more) (sent ++ further) a c
passes_join a b c got sent more further p q = record {
  left = p.left ∙ ap (λ l. got ++ l) q.left ∙ sym (append_assoc got more c.line.left);
  written = q.written ∙ ap (λ l. l ++ further) p.written ∙ append_assoc a.line.written sent further;
  coming = q.coming ∙ p.coming;
  past = q.past ∙ p.past;
}

-- what passes, and then more
pub exchange_join : (a b c : Option Wire) (got sent more further : List ℕ) → Exchange got sent a b → Exchange more further b c → Exchange (got ++ more) (sent ++ further) a c
exchange_join None None None got sent more further p q = tt
exchange_join (Some a) (Some b) (Some c) got sent more further p q = passes_join a b c got sent more further p q
exchange_join None None (Some c) got sent more further p q = absurd q
exchange_join None (Some b) c got sent more further p q = absurd p
exchange_join (Some a) None c got sent more further p q = absurd p
exchange_join (Some a) (Some b) None got sent more further p q = absurd q

pub door_join : (a b c : DoorView) → IsSameDoor a b → IsSameDoor b c → IsSameDoor a c
door_join a b c p q = record {
  listens = q.listens ∙ p.listens;
  is_open = q.is_open ∙ p.is_open;
  accepts = q.accepts ∙ p.accepts;
}

pub gets_join : (a b c : DoorView) (got more : List ℕ) → Gets got a b → Gets more b c → Gets (got ++ more) a c
gets_join a b c got more p q = record {
  wire = exchange_join a.wire b.wire c.wire got [] more [] p.wire q.wire;
  door = door_join a b c p.door q.door;
  writes = q.writes ∙ p.writes;
}

pub gets_nothing : (a : DoorView) → Gets [] a a
gets_nothing a = record { wire = passes_nothing a.wire; door = record { listens = refl; is_open = refl; accepts = refl }; writes = refl }

pub took_nothing : (a : DoorView) (pending : List ℕ) → Took a a pending pending
took_nothing a pending = record { got = []; gets = gets_nothing a; is = sym (append-nil pending) }

pub took_join : (a b c : DoorView) (p q r : List ℕ) → Took a b p q → Took b c q r → Took a c p r
took_join a b c p q r one two = record {
  got = one.got ++ two.got;
  gets = gets_join a b c one.got two.got one.gets two.gets;
  is = two.is ∙ ap (λ l. l ++ two.got) one.is ∙ append_assoc p one.got two.got;
}

-- where nothing was read, what was dry stays so
pub dry_stays : (before after : Option Wire) (sent : List ℕ) → Exchange [] sent before after → IsDry before → IsDry after
dry_stays None None sent p dry = tt
dry_stays (Some a) (Some b) sent p dry = sym p.left ∙ dry
dry_stays None (Some b) sent p dry = absurd p
dry_stays (Some a) None sent p dry = absurd p

-- all that is left of a text
pub rest_is : (text : List ℕ) (count n : ℕ) → n ≡ length text - count → take n (drop count text) ≡ drop count text
rest_is text count n all = take_all n (drop count text) (omega (arith, all, length-drop count text))

-- one piece more of a text is sent
pub sent_more : (a b c : Option Wire) (text rest : List ℕ) (count n : ℕ) → rest ≡ drop count text
    → Exchange [] (take count text) a b → Exchange [] (take n rest) b c → Exchange [] (take (count + n) text) a c
sent_more a b c text rest count n is p q =
    subst (λ s. Exchange [] s a c) (ap (λ r. take count text ++ take n r) is ∙ sym (take-add count n text))
    (exchange_join a b c [] (take count text) [] (take n rest) p q)

pub drop_front : (n : ℕ) (a b : List ℕ) → n ≤ length a → drop n (a ++ b) ≡ drop n a ++ b
drop_front n a b within = drop-append-le n a b within
