-- What passes between stages, and what is done to it.
use Rattle.std.specs.Prelude.{ℕ, Bool, true, false, List, [], ◌∷◌, eqb, ltb, drop, Option, Some, None}
use Rattle.word.specs.Choice.{pick}
use Rattle.varying.specs.declared.Located.{Located}
use Rattle.varying.specs.declared.InterfaceVar.{InterfaceVar}

-- what a stage hands to the next: its local variables by rising location, and words of free room, which are the format's
pub record StageIo : Type 0 where
  pub primitive : Option Bool
  pub payload : Option ℕ
  pub varyings : List Located
  pub room : List ℕ

-- the variable that the stage before provides at a location
unfoldable pub varying_at : ℕ → List Located → Option InterfaceVar
varying_at location [] = None
varying_at location (v ∷ vs) = let rest = varying_at location vs in pick (eqb v.location location) (Some v.var) rest

-- 'by rising location, once each'
unfoldable pub rising : List Located → Bool
rising [] = true
rising (v ∷ []) = true
rising (v ∷ w ∷ vs) = let rest = rising (w ∷ vs) in pick (ltb v.location w.location) rest false

-- a variable put into its place by location; of equal locations the last is kept
unfoldable pub insert : Located → List Located → List Located
insert v [] = v ∷ []
insert v (w ∷ vs) =
    let rest = insert v vs in
    pick (ltb v.location w.location) (v ∷ w ∷ vs) (pick (eqb v.location w.location) (v ∷ vs) (w ∷ rest))

-- a variable is provided
abbrev pub is_provided : Option InterfaceVar → Bool
is_provided (Some v) = true
is_provided None = false

-- the list with a variable put in: a new location takes two words of the free room
unfoldable pub inserted : Located → StageIo → StageIo
inserted v S =
    record {
      primitive = S.primitive;
      payload = S.payload;
      varyings = insert v S.varyings;
      room = pick (is_provided (varying_at v.location S.varyings)) S.room (drop 2 S.room);
    }
