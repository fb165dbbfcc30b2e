-- What is kept of bags of items, before and after a change. A bag is a list of which the order says nothing; `is_of bag kept` says that this is what is kept of the bag.
use Rattle.std.specs.Prelude.{◌<◌, List, ◌∷◌, length, Option, Some, None}

-- the bag with one more item, if there is one
abbrev pub with_item : {I : Type 0} → Option I → List I → List I
with_item None bag = bag
with_item (Some item) bag = item ∷ bag

module _ {I A : Type 0} (is_of : List I → A → Type 0) where
  -- the item is in the bag of which this is kept
  pub record Holds (item : I) (kept : A) : Type 0 where
    pub rest : List I
    pub whole : is_of (item ∷ rest) kept

  -- the bag of which this is kept has fewer than 4,294,967,295 items
  pub record HasRoom (kept : A) : Type 0 where
    pub bag : List I
    pub whole : is_of bag kept
    pub few : length bag < 4294967295

  -- each bag stays
  abbrev pub Stays : A → A → Type 0
  Stays before after = (bag : List I) → is_of bag before → is_of bag after

  -- the bag has the second item in place of the first
  abbrev pub Exchanges : Option I → Option I → A → A → Type 0
  Exchanges old new before after = (rest : List I) → is_of (with_item old rest) before → is_of (with_item new rest) after
