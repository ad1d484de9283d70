-- What it means that a contract is tight: it asks for nothing, and any two endings that meet it for the same arguments are equal. An ending is the result
-- with the last value behind everything that was lent by `&mut`. Which values these are the parameters' types say (`Lasts`): nobody lists them. It is
-- said of the contract as the checker has it (`clauses`), not of a copy of its text. Assumes nothing.
use Rattle.std.specs.Prelude.{◌≡◌}
use seplogic.Ra.Ura.{Ura}
use base.Logic.{SProp, ent, sep, emp}
use prog.Memory.{Memory}
use prog.Routine.{Routine}
use types.Logic.{Logic}
use contract.Monad.{Fun, fact}
use contract.Lifetimes.{Lfts}
use denote.Exit.{yes}
use denote.Triple.Entry.{Args, Res}
use denote.Triple.End.{all}
use denote.Triple.Clauses.{Ended, Lasts, at_exit, ClausesAt, Clauses}

abbrev Lft : Ended → Type 0
Lft T = Lfts T.signature.lifetimes

-- for the arguments `a`, where `see` is what is looked at of the result
pub record TightAt {M : Type 1} (𝓤 : Ura M) (T : Ended) (κs : Lft T) (a : Args T.signature κs) {X : Type 0} (see : Res T.signature κs → X) (c : ClausesAt 𝓤 T κs) : Type 1 where
  pub asks_nothing : (g : c.ghost) × ent 𝓤 (emp 𝓤) (c.requires g)
  pub one_ending : (g : c.ghost) (r q : Res T.signature κs) (ws vs : Lasts T κs a) →
      ent 𝓤 (sep 𝓤 (c.ensures g r (at_exit T κs a ws)) (c.ensures g q (at_exit T κs a vs))) (fact 𝓤 (◌≡◌ {A = X × Lasts T κs a} (see r, ws) (see q, vs)))

module _ (M : Type 1) (T : Ended) where
  abbrev pub Contract : Type 2
  Contract = (𝓤 : Ura M) (𝓛 : Logic 𝓤) (mem : Memory → SProp 𝓤) (run : Routine → Fun 𝓤) → Clauses 𝓤 T

  pub record TightAs {X : Lft T → Type 0} (see : (κs : Lft T) → Res T.signature κs → X κs) (c : Contract) : Type 2 where
    -- no `&mut` lives on in the result, where a contract couldn't speak of its last value
    pub all_kept : T.kept ≡ all yes T.signature.params
    pub at_each : (𝓤 : Ura M) (𝓛 : Logic 𝓤) (mem : Memory → SProp 𝓤) (run : Routine → Fun 𝓤) (κs : Lft T) (a : Args T.signature κs) →
        TightAt 𝓤 T κs a (see κs) (c 𝓤 𝓛 mem run κs a)

  -- of the result all is looked at
  abbrev pub Tight : Contract → Type 2
  Tight c = TightAs (λ κs r. r) c
