mod GoalBodies
mod InRange
