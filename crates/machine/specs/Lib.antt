-- The abstract machine. `State` has what there is, `Step` what a request does, `Refusals` a refusal as an answer, `Lists` what a list of requests does, `Run` sequences,
-- `Reach` who reaches which page, `Good` what holds of every state that is reached, `Conditions` when a request succeeds, `Parts` what is one machine's own, and `Own` what a
-- machine can learn.
pub mod State
pub mod Step
pub mod Refusals
pub mod Lists
pub mod Run
pub mod Reach
pub mod Good
pub mod Conditions
pub mod Parts
pub mod Own
