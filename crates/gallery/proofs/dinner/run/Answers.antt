use Rattle.gallery.proofs.dinner.run.Goals as goal

-- a fork lies above those of lower numbers
pub no_circle_waits-requires : goal.no_circle_waits-requires
no_circle_waits-requires g c = record { rises = ((λ k. k), (λ j k above. above)) }
