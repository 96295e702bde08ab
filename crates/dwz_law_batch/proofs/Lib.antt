mod OneJob
mod AllJobs
