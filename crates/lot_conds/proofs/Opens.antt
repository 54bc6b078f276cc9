-- The rule holds of the table at the opening.
use Rattle.std.proofs.Common.{◌≡◌, ℕ, ◌<◌, false, [], length, replicate, get_or, refl, ◌∙◌, arith}
use Rattle.std.proofs.lemmas.List.{length-replicate}
use Rattle.lot_core.proofs.Members.{in_none, once_none}
use Rattle.lot_core.proofs.Rows.{get_or_replicate}
use Rattle.lot_rights.specs.Layout.{word_count}
use Rattle.lot_rights.specs.Start.{OpensWell}
use Rattle.lot_core.specs.Sums.{total}
use Rattle.lot_rights.specs.World.{awake}
use Rattle.lot_core.proofs.Sums.{total_same, total_none}
use Rattle.lot_rights.proofs.Owing.{owed_none}
use Rattle.lot_rights.proofs.Worlds.{fresh_words}
use Rattle.lot_conds.specs.declared.views.Size.{Size}
use Rattle.lot_conds.specs.World.{CondWorld, flag_word, Kept}
use Rattle.lot_conds.specs.Rule.{key_count, sizes_of, fresh_pass, fresh_root, meaning}
use Rattle.lot_conds.proofs.Machine.{no_some}

abbrev fresh_world : ℕ → CondWorld
fresh_world m = record { pass = λ t. fresh_pass m; spot = λ t. awake; word = λ c. false; root = λ c. fresh_root }

none_counted : (n m c : ℕ) → total n (λ t. get_or (replicate m 0) c 0) ≡ 0
none_counted n m c = total_same n (λ t. get_or (replicate m 0) c 0) (λ t. 0) (λ t _. get_or_replicate 0 m c) ∙ total_none n

fresh_kept : (n m : ℕ) → Kept n m (fresh_world m)
fresh_kept n m = record {
  threads = λ t. record {
    called = length-replicate m 0;
    woken = length-replicate m 0;
    outs = λ c e. absurd (no_some c e);
    spot = refl;
    in_line = λ c h. absurd (in_none t h);
    is_owed = λ c h. absurd (in_none t h);
  };
  conds =
      λ c. record {
        once = once_none;
        owed_once = once_none;
        swept = λ e some. absurd (some refl);
        ledger = omega (arith, none_counted n m c, total_none n);
      };
}

pub opens_well : (size : Size) → 0 < size.locks → OpensWell (meaning size) (replicate (word_count size.threads (key_count size)) 0) []
opens_well size some = let m : ℕ = key_count size in record {
  world = fresh_world m;
  fits =
      record {
        some = some;
        words = fresh_words flag_word (sizes_of size) (fresh_world m) (λ c. refl) (λ t. refl);
        kept = fresh_kept size.threads m;
      };
  passes = λ t near. (near, refl);
  roots = λ c is. (is, refl);
  start = refl;
  owed = λ c. owed_none (sizes_of size) (λ r. length r.owes) (fresh_world m).root c refl;
}
