-- What keeps the rule keeps the headline.
use Rattle.std.proofs.Common.{◌≡◌, ◌<◌, ℕ, List, subst}
use Rattle.std.specs.List.{Contains}
use Rattle.atomic_table.specs.Table.{State}
use Rattle.lot_rights.specs.declared.views.Right.{Right}
use Rattle.lot_rights.specs.Rule.{Ruled}
use Rattle.lot_rights.specs.World.{Spot, awake, queued, owed, lying, waits_on}
use Rattle.lot_rights.proofs.Settling.{one_history_led}
use Rattle.lot_conds.specs.declared.views.CondPassView.{CondPassView}
use Rattle.lot_conds.specs.declared.views.CondRootView.{CondRootView}
use Rattle.lot_conds.specs.declared.views.Size.{Size}
use Rattle.lot_conds.specs.World.{CondWorld, SpotFits, Kept}
use Rattle.lot_conds.specs.Rule.{key_count, meaning}
use Rattle.lot_conds.specs.Headline.{LettersFit, Headline}

module _ (n m : ℕ) (w : CondWorld) (ok : Kept n m w) where
  is_out : (t : ℕ) (sp : Spot) → SpotFits n w.root t (w.pass t) sp → (w.pass t).out ≡ waits_on sp
  is_out t awake fits = fits
  is_out t (queued c) fits = fits.0.1
  is_out t (owed c k) fits = fits.0.1
  is_out t (lying c k) fits = fits.0.1

  at_spot : (t : ℕ) (sp : Spot) → w.spot t ≡ sp → SpotFits n w.root t (w.pass t) sp
  at_spot t sp is = subst (SpotFits n w.root t (w.pass t)) is (ok.threads t).spot

  pub letters_fit : LettersFit w
  letters_fit = record {
    out = λ t. is_out t (w.spot t) (ok.threads t).spot;
    lines = λ t c. ((ok.threads t).in_line c, λ is. (at_spot t (queued c) is).1);
    owes = λ t c. ((ok.threads t).is_owed c, λ is. (at_spot t (owed c 0) is).1);
    tokens = λ t c k is. (at_spot t (lying c k) is).1;
    once_in_line = λ c. (ok.conds c).once;
    owed_once = λ c. (ok.conds c).owed_once;
  }

  in_line_near : (c t : ℕ) → Contains (w.root c).line t → t < n
  in_line_near c t h = (at_spot t (queued c) ((ok.threads t).in_line c h)).0.0

pub headline : (size : Size) (s : State (Unit {0}) (List (Right CondPassView CondRootView))) → Ruled (meaning size) s → Headline size s
headline size s ru = record {
  world = ru.world;
  words = ru.fits.words;
  letters = letters_fit size.threads (key_count size) ru.world ru.fits.kept;
  are_threads = in_line_near size.threads (key_count size) ru.world ru.fits.kept;
  someone_sweeps = λ c. (ru.fits.kept.conds c).swept;
  balanced = λ c. (ru.fits.kept.conds c).ledger;
  run = one_history_led (meaning size) s ru;
}
