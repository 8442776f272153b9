-- `copy_store` meets its contract: each list is zeros, with the entries laid over its front.
use Rattle.std.proofs.Common.{arith, refl}
use Rattle.std.proofs.lemmas.Grind.{common_steps}
use Rattle.old_stores.proofs.Copying.{laid-filled}
use Rattle.old_stores.proofs.copy_store.Goals as goal

pub returns-clause-copied : goal.returns-clause-copied
returns-clause-copied c = record {
  levels_left = refl;
  count_left = refl;
  level_left = laid-filled _ _ _ (grind (arith, common_steps)) (c.fill.ensures.after (λ y h. h)) c.copy_front.ensures.long c.copy_front.ensures.front c.copy_front.ensures.rest;
  then_left = laid-filled _ _ _ (grind (arith, common_steps)) (c.fill-2.ensures.after (λ y h. h)) c.copy_front-2.ensures.long c.copy_front-2.ensures.front c.copy_front-2.ensures.rest;
  els_left = laid-filled _ _ _ (grind (arith, common_steps)) (c.fill-3.ensures.after (λ y h. h)) c.copy_front-3.ensures.long c.copy_front-3.ensures.front c.copy_front-3.ensures.rest;
  next_left = laid-filled _ _ _ (grind (arith, common_steps)) (c.fill-4.ensures.after (λ y h. h)) c.copy_front-4.ensures.long c.copy_front-4.ensures.front c.copy_front-4.ensures.rest;
  heads_left = laid-filled _ _ _ (grind (arith, common_steps)) (c.fill-5.ensures.after (λ y h. h)) c.copy_front-5.ensures.long c.copy_front-5.ensures.front c.copy_front-5.ensures.rest;
}
