-- The scope's sentence on room, of every call: NO ROOM exactly if the distinct rests outnumber the capacity, and no lower number applies. Assumes nothing.
use Rattle.std.specs.Prelude.{◌≡◌, ◌↔◌}
use Rattle.theory.specs.Kind.{Kind}
use Rattle.theory.specs.Rules.{rules}
use Rattle.theory.specs.Costs.{costs}
use Rattle.settings.specs.Refusals.{Cases}
use Rattle.settings.specs.declared.refusals.Refusal.TheVariants.{NoRoom}
use Rattle.settings.specs.Refusals.{Outcome}
use Rattle.settings.specs.Refusals.{Refused}
use Rattle.promises.specs.State.{State, Outnumber}
use Rattle.promises.specs.Table.{Effect, keeps, puts, opens}
use Rattle.promises.specs.BothDeeds.{both}
use Rattle.demands.specs.Exact.{LowerNone}

-- a call with the refusals l that found the functions z and ended as o: one that puts g, and one that puts nothing
abbrev pub RoomExact : {K : Kind} → Effect K → State K → Cases → Outcome → Type 0
RoomExact keeps z l o = o ≡ Refused NoRoom → ⊥
RoomExact (puts p g) z l o = (o ≡ Refused NoRoom) ↔ (Outnumber z g × LowerNone NoRoom l)
RoomExact (opens y) z l o = o ≡ Refused NoRoom → ⊥

-- of two tables: the one that is written
abbrev pub RoomOfBoth : Effect rules → Effect costs → both.Plain → Cases → Outcome → Type 0
RoomOfBoth keeps f z l o = RoomExact f z.1 l o
RoomOfBoth (puts p g) f z l o = RoomExact (puts p g) z.0 l o
RoomOfBoth (opens y) f z l o = RoomExact (opens y) z.0 l o
