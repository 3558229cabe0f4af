-- Lemmas on the lines of a text, read one after another.
use Rattle.pigyelund_routes.proofs.Common.{List, [], append_assoc, refl, ℕ, ◌++◌, ◌+◌, ◌∷◌, ◌≡◌, Route}
use Rattle.std.proofs.Common.{Option, append-nil, inl, inr}
use Rattle.rpki_text.specs.Lines.{lines_of}
use Rattle.roa_routes.specs.Routes.{HasRouteFault, IsReadLine}
use Rattle.roa_routes.specs.declared.route.Route.{Route as LineRoute}
use Rattle.pigyelund_routes.specs.RouteTexts.{AreLineRoutes, HaveFirstFault, routes_of}
use Rattle.pigyelund_routes.specs.declared.lines.LineFault.{LineFault}

-- The lines before the rest are read, and have these routes. These routes and then those of the rest are those of the
-- text. The first invalid line of the rest is that of the text.
pub record AreReadSo (text rest : List ℕ) (number : ℕ) (routes : List Route) : Type 0 where
  pub values : (more : List Route) → AreLineRoutes (lines_of rest) more → AreLineRoutes (lines_of text) (routes ++ more)
  pub faults : (first : LineFault) → HaveFirstFault (number + 1) (lines_of rest) first
      → HaveFirstFault 1 (lines_of text) first

-- nothing is read yet
pub read_none : (text : List ℕ) (routes : List Route) → routes ≡ [] → AreReadSo text text 0 routes
read_none text routes none =
    record { values = λ more rows. rw none rows; faults = λ first wrong. wrong }

module _ (text rest after line : List ℕ) (number : ℕ) (routes : List Route) (had : AreReadSo text rest number routes)
    (first : lines_of rest ≡ line ∷ lines_of after) where
  -- one line more
  pub read_more : (read : Option LineRoute) (own : List Route) → routes_of read ≡ own → IsReadLine line read
      → AreReadSo text after (number + 1) (routes ++ own)
  read_more read own own_is is = record {
    values = λ more rows.
        rw append_assoc (had.values (own ++ more) (rw first (read, is, more, rw own_is refl, rows)));
    faults = λ fault wrong. had.faults fault (rw first (inr (read, is, wrong)));
  }

  -- the next line is invalid
  pub read_wrong : (fault : LineFault) → HasRouteFault line fault.fault → fault.number ≡ number + 1
      → HaveFirstFault 1 (lines_of text) fault
  read_wrong fault has is = had.faults fault (rw first (inl (has, is)))

-- nothing is left
pub read_all : (text rest : List ℕ) (number : ℕ) (routes : List Route) → AreReadSo text rest number routes → rest ≡ []
    → AreLineRoutes (lines_of text) routes
read_all text rest number routes had end = rw append-nil at (had.values [] (rw end refl))
